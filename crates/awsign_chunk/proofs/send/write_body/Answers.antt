use Rattle.std.proofs.Common.{◌∙◌}
use Rattle.awsign_chunk.proofs.SendingLemmas.{body_answered, body_cut, body_ended, body_unended}
use Rattle.awsign_chunk.proofs.send.write_body.Goals as goal

pub returns-in_err-write_data-clause-sends : goal.returns-in_err-write_data-clause-sends
returns-in_err-write_data-clause-sends g c = λ first who t checksum over years holds.
    body_answered _ who t _ _ checksum first _ _ _ _ c.in_err-write_data.field-0.0 c.from_residual.result c.from_residual.ensures.1
    (body_cut _ who t _ _ checksum first c.args.plan.trailers _ _ _ c.in_err-write_data.field-0.0 (c.in_err-write_data.ensures.sends first who t checksum over years holds))

pub returns-in_err-text-clause-sends : goal.returns-in_err-text-clause-sends
returns-in_err-text-clause-sends g c = λ first who t checksum over years holds.
    body_answered _ who t _ _ checksum first _ _ _ _ _ c.from_residual-in_err-text.result c.from_residual-in_err-text.ensures.1
    (body_unended _ who t _ _ checksum first c.args.plan.trailers _ _ _ _ _ (c.in_ok-write_data.ensures.sends first who t checksum over years holds))

pub returns-clause-sends : goal.returns-clause-sends
returns-clause-sends g c = λ first who t checksum over years holds.
    let wrote = c.write_piece.ensures in
    body_ended _ who t _ _ checksum first c.args.plan.trailers _ _ _ _ _ (c.in_ok-write_data.ensures.sends first who t checksum over years holds) _ c.as_slice.result.now
    c.write_piece.result (λ from bytes told held. c.as_slice.ensures.value ∙ c.in_ok-text.ensures from who t checksum bytes c.args.plan.options.chunk_size told years held) wrote.ok wrote.err wrote.why
