use Rattle.std.proofs.Common.{ap, subst, ◌≤◌, ◌∙◌}
use Rattle.aws_chunked.specs.Reading.{IsEndedLength, IsLength, Led, StopsWhere}
use Rattle.aws_chunked.specs.Rests.{ReadsChunks, signature_texts}
use Rattle.aws_chunked.proofs.ReadLemmas.{err_exit}
use Rattle.aws_chunked.proofs.StepLemmas.{data_stops, first_head_stops, first_length_stops, head_stops, length_stops, reached_end, reached_first, reached_next}
use Rattle.aws_chunked.proofs.decode.chunks.read_chunks.Goals as goal

pub loop-length-init : goal.loop-length-init
loop-length-init c =
    let l = c.in_ok-size.ensures in
    let h = c.in_ok-rest.ensures in
    reached_first _ _ _ _ _ _ _ _ _ _ l.0 l.1 l.2 c.begins_with.ensures h.2 h.1 (ap signature_texts c.new-2.ensures.items) h.3 h.4 (ap (λ v. v.items) h.5 ∙ c.new.ensures.items)

pub loop-length-preserved : goal.loop-length-preserved
loop-length-preserved c =
    let d = c.in_ok-behind.ensures in
    let l = c.in_ok-next.ensures in
    let h = c.in_ok-rest-2.ensures in
    reached_next _ _ _ _ _ _ _ _ _ _ _ _ _ _ _ _ c.loop-length.invariant c.loop-length-test.true d.1 d.2 (ap (λ v. v.items) h.5 ∙ d.3)
    (subst (λ most. c.in_ok-next.next ≤ most) c.most_after.ensures l.0) l.1 l.2 h.2 h.1 h.3 h.4

pub returns : goal.returns
returns c = reached_end _ _ _ _ _ _ _ c.loop-length.invariant c.loop-length-test.false

pub returns-in_err-size : goal.returns-in_err-size
returns-in_err-size c = err_exit (ReadsChunks c.args.bytes.now) _ _ c.from_residual.ensures.1 (first_length_stops _ _ c.in_err-size.ensures)

pub returns-in_err-rest : goal.returns-in_err-rest
returns-in_err-rest c =
    let l = c.in_ok-size.ensures in
    err_exit (ReadsChunks c.args.bytes.now) _ _ c.from_residual-in_err-rest.ensures.1
    (first_head_stops _ _ _ _ _ l.0 l.1 l.2 c.begins_with.ensures c.in_err-rest.ensures)

pub returns-in_err-behind : goal.returns-in_err-behind
returns-in_err-behind c =
    err_exit (ReadsChunks c.args.bytes.now) _ _ c.from_residual-in_err-behind.ensures.1
    (data_stops _ _ _ _ _ _ _ _ c.loop-length.invariant c.loop-length-test.true c.in_err-behind.ensures)

pub returns-in_err-next : goal.returns-in_err-next
returns-in_err-next c =
    let d = c.in_ok-behind.ensures in
    err_exit (ReadsChunks c.args.bytes.now) _ _ c.from_residual-in_err-next.ensures.1
    (length_stops _ _ _ _ _ _ _ _ _ _ _ c.loop-length.invariant c.loop-length-test.true d.1 d.2 d.3
    (subst (λ most. StopsWhere (IsLength most) (Led (IsEndedLength most)) c.in_ok-behind.behind.now c.in_err-next.field-0.0) c.most_after.ensures c.in_err-next.ensures))

pub returns-in_err-rest-2 : goal.returns-in_err-rest-2
returns-in_err-rest-2 c =
    let d = c.in_ok-behind.ensures in
    let l = c.in_ok-next.ensures in
    err_exit (ReadsChunks c.args.bytes.now) _ _ c.from_residual-in_err-rest-2.ensures.1
    (head_stops _ _ _ _ _ _ _ _ _ _ _ _ _ c.loop-length.invariant c.loop-length-test.true d.1 d.2 d.3
    (subst (λ most. c.in_ok-next.next ≤ most) c.most_after.ensures l.0) l.1 l.2 c.in_err-rest-2.ensures)
