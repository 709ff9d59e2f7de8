use Rattle.std.proofs.Common.{ap, map, sym, ◌∙◌}
use Rattle.aws_chunked.specs.Rests.{ReadsTail}
use Rattle.aws_chunked.specs.TailRests.{pair_texts}
use Rattle.aws_chunked.proofs.ReadLemmas.{err_exit}
use Rattle.aws_chunked.proofs.TailLemmas.{end_stops, lines_stop, more_stops, split_stops, tail_whole}
use Rattle.aws_chunked.proofs.TailReadLemmas.{empty_rest, lower_split, some_rest, tail_named}
use Rattle.aws_chunked.proofs.decode.trailers.read_trailers.Goals as goal

pub returns-in_err-lines : goal.returns-in_err-lines
returns-in_err-lines c = err_exit (ReadsTail c.args.is_signed c.args.bytes.now _ _) _ _ c.from_residual.ensures.1 (c.in_err-lines.ensures c.args.is_signed)

pub returns-in_default : goal.returns-in_default
returns-in_default c =
    let l = c.in_ok-lines.ensures in
    lines_stop _ _ _ _ _ l.0 l.1
    (split_stops _ _ _ _ l.2 (λ trailers last is. c.in_default.ensures trailers last (ap (map pair_texts) c.as_slice.ensures.value ∙ is.0, is.1)) c.bad_at.ensures)

pub returns-in_err-rest : goal.returns-in_err-rest
returns-in_err-rest c =
    let l = c.in_ok-lines.ensures in
    let s = c.in-Some.ensures in
    err_exit (ReadsTail c.args.is_signed c.args.bytes.now _ _) _ _ c.from_residual-in_err-rest.ensures.1
    (lines_stop _ _ _ _ _ l.0 l.1 (end_stops _ _ _ _ _ _ l.2 (ap (map pair_texts) (sym c.as_slice.ensures.value) ∙ s.0, s.1) c.in_err-rest.ensures))

pub returns-then-not-is_empty : goal.returns-then-not-is_empty
returns-then-not-is_empty c =
    let l = c.in_ok-lines.ensures in
    let s = c.in-Some.ensures in
    lines_stop _ _ _ _ _ l.0 l.1
    (more_stops _ _ _ _ _ _ _ (ap (map pair_texts) (sym c.as_slice.ensures.value) ∙ s.0, s.1) c.in_ok-rest.ensures (some_rest _ (sym c.if-not-is_empty.ensures))
    c.bad_at-then-not-is_empty.ensures)

pub returns : goal.returns
returns c =
    let l = c.in_ok-lines.ensures in
    let s = c.in-Some.ensures in
    let split = ap (map pair_texts) (sym c.as_slice.ensures.value) ∙ s.0 in
    let names = c.in_ok-headers_of.ensures ∙ lower_split _ _ _ l.0 split in
    let whole = tail_named _ _ _ _ _ names
    (tail_whole _ _ _ _ _ _ _ l.0 l.1 (split, s.1) c.in_ok-rest.ensures (empty_rest _ (sym c.if-not-is_empty.ensures))) in
    (_, c.in_ok-push_signature.ensures, whole.0, whole.1)
