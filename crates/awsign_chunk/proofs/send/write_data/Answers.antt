use Rattle.std.proofs.Common.{◌<◌, ◌≤◌, ◌∙◌, arith, eqb-true, length}
use Rattle.std.proofs.lemmas.Bool.{eqb-false}
use Rattle.awsign_chunk.proofs.SendingLemmas.{come_on, come_to_end, cut_reading, cut_too_long, cut_too_short, cut_writing, data_cut, whole_or_last}
use Rattle.awsign_chunk.proofs.send.write_data.Goals as goal

pub returns-in_err-piece-clause-sends : goal.returns-in_err-piece-clause-sends
returns-in_err-piece-clause-sends g c = λ first who t checksum over years holds.
    let come = rw c.chunks-test.true at c.chunks.invariant.comes first who t checksum over years holds in
    data_cut _ who t _ _ checksum first _ _ _ _ _ c.in_err-piece.field-0.0 c.from_residual.result c.from_residual.ensures.1
    (cut_reading _ who t _ _ checksum first _ _ _ _ _ _ _ come c.in_err-piece.field-0.0 c.in_err-piece.ensures.why)

pub returns-in_err-left-clause-sends : goal.returns-in_err-left-clause-sends
returns-in_err-left-clause-sends g c = λ first who t checksum over years holds.
    let come = rw c.chunks-test.true at c.chunks.invariant.comes first who t checksum over years holds in
    let long : c.chunks.left < length c.in_ok-piece.piece.items = omega (arith, c.in_err-left.ensures.0) in
    data_cut _ who t _ _ checksum first _ _ _ _ _ _ c.from_residual-in_err-left.result (rw c.in_err-left.ensures.1 at c.from_residual-in_err-left.ensures.1)
    (cut_too_long _ who t _ _ checksum first _ _ _ _ _ _ _ come _ c.in_ok-piece.piece.items c.in_ok-piece.ensures.cut long)

pub chunks-preserved : goal.chunks-preserved
chunks-preserved g c = record {
  comes = λ first who t checksum over years holds.
      let come = rw c.chunks-test.true at c.chunks.invariant.comes first who t checksum over years holds in
      let within : length c.in_ok-piece.piece.items ≤ c.args.plan.now.options.chunk_size = omega (arith, c.in_ok-piece.ensures.within) in
      come_on _ who t _ _ checksum first _ _ _ _ _ _ _ come _ c.in_ok-piece.piece.items _ c.in_ok-left.left _ _ _ c.in_ok-piece.ensures.cut
      (λ same. let is = eqb-true c.len.result c.chunk_size-size.result same in omega arith)
      (λ other.
      let no = eqb-false c.len.result c.chunk_size-size.result other in
      c.in_ok-piece.ensures.ended (omega (arith, no, c.in_ok-piece.ensures.within)))
      (omega (arith, c.in_ok-left.ensures))
      (λ taken h. c.in_ok-write_chunk.ensures.sum checksum taken h)
      (λ from is. c.in_ok-write_chunk.ensures.writes from who t c.args.plan.now.options.chunk_size is years (omega arith) within);
  read = c.in_ok-piece.ensures.failed.stayed (λ failed. cc) ∙ c.chunks.invariant.read;
  wrote = c.in_ok-write_chunk.ensures.failed.stayed (λ failed. cc) ∙ c.chunks.invariant.wrote;
}

pub returns-in_err-write_chunk-clause-sends : goal.returns-in_err-write_chunk-clause-sends
returns-in_err-write_chunk-clause-sends g c = λ first who t checksum over years holds.
    let come = rw c.chunks-test.true at c.chunks.invariant.comes first who t checksum over years holds in
    let within : length c.in_ok-piece.piece.items ≤ c.args.plan.now.options.chunk_size = omega (arith, c.in_ok-piece.ensures.within) in
    let last =
    whole_or_last c.args.plan.now.options.chunk_size (length c.in_ok-piece.piece.items) _ within (λ less. c.in_ok-piece.ensures.ended (omega (arith, less)))
    in
    data_cut _ who t _ _ checksum first _ _ _ _ _ c.in_err-write_chunk.field-0.0 c.from_residual-in_err-write_chunk.result c.from_residual-in_err-write_chunk.ensures.1
    (cut_writing _ who t _ _ checksum first _ _ _ _ _ _ _ come _ c.in_ok-piece.piece.items _ c.in_err-write_chunk.field-0.0 c.in_ok-piece.ensures.cut last
    c.in_err-write_chunk.ensures.why
    (λ from is. (c.in_err-write_chunk.ensures.writes from who t c.args.plan.now.options.chunk_size is years (omega arith) within).1))

pub returns-then-left-gt0-clause-sends : goal.returns-then-left-gt0-clause-sends
returns-then-left-gt0-clause-sends g c = λ first who t checksum over years holds.
    cut_too_short _ who t _ _ checksum first _ _ _ _ _ _ _ (rw c.chunks-test.false at c.chunks.invariant.comes first who t checksum over years holds) c.if-left-gt0.true

pub returns-clause-sends : goal.returns-clause-sends
returns-clause-sends g c = λ first who t checksum over years holds.
    come_to_end _ who t _ _ checksum first _ _ _ _ _ _ _ (rw c.chunks-test.false at c.chunks.invariant.comes first who t checksum over years holds) (omega arith)
