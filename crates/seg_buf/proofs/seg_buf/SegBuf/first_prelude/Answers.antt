use Rattle.std.proofs.Common.{◌∙◌, arith}
use Rattle.seg_buf.proofs.SegmentLemmas.{prelude_in_first}
use Rattle.seg_buf.proofs.seg_buf.SegBuf.first_prelude.Goals as goal

-- src/seg_buf.rt:212:5
pub returns : goal.returns
returns c =
    let chunk = c.in_ok-prelude.ensures.cases in
    chunk.0 ∙ prelude_in_first _ _ _ c.in_ok-first.ensures.lie c.in_ok-first.ensures.first (omega (arith, chunk.2))
