use Rattle.std.proofs.Common.{sym}
use Rattle.std.proofs.lemmas.Bool.{eqb-false, eqb-true}
use Rattle.aws_chunked.specs.TailRests.{ReadsName}
use Rattle.aws_chunked.proofs.LineLemmas.{name_colon, name_found, name_none, name_text}
use Rattle.aws_chunked.proofs.ReadLemmas.{err_exit}
use Rattle.aws_chunked.proofs.decode.trailer_lines.read_name.Goals as goal

pub returns-then-is_empty : goal.returns-then-is_empty
returns-then-is_empty c =
    let n = c.name_length.ensures in
    let s = c.split_at.ensures in
    name_none _ _ _ _ _ n.there n.ends s.front_len s.back (eqb-true _ 0 (sym c.if-is_empty.ensures)) c.bad_at.ensures

pub returns-in_err-rest : goal.returns-in_err-rest
returns-in_err-rest c =
    let n = c.name_length.ensures in
    let s = c.split_at.ensures in
    err_exit (ReadsName c.args.bytes.now) _ _ c.from_residual.ensures.1
    (name_colon _ _ _ _ _ n.most n.there n.all n.ends s.front s.front_len s.back (eqb-false _ 0 (sym c.if-is_empty.ensures)) c.in_err-rest.ensures)

pub returns : goal.returns
returns c =
    let n = c.name_length.ensures in
    let s = c.split_at.ensures in
    name_found _ _ _ _ _ _ n.most n.there n.all s.front s.front_len s.back (eqb-false _ 0 (sym c.if-is_empty.ensures)) c.in-Ok.ensures.cases.0 c.in_ok-rest.ensures

pub returns-in_default : goal.returns-in_default
returns-in_default c =
    let n = c.name_length.ensures in
    let s = c.split_at.ensures in
    absurd (c.in_default.ensures.cases.0 (name_text _ _ _ n.there n.all s.front (eqb-false _ 0 (sym c.if-is_empty.ensures))))
