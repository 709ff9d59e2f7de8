use Rattle.std.proofs.Common.{ap, arith}
use Rattle.seg_buf.proofs.SegmentLemmas.{cut_first}
use Rattle.seg_buf.proofs.seg_buf.SegBuf.advance_first.Goals as goal

pub returns-then-n-live-clause-segments : goal.returns-then-n-live-clause-segments
returns-then-n-live-clause-segments c =
    let front = c.in-Some.ensures in
    cut_first c.self.inside.pieces.items c.args.self.now.segments c.self.inside.taken c.args.n c.in-Some.first.now c.requires.some front.item.3.0 front.lookup
    (omega (arith, c.if-n-live.true, c.len.ensures.value)) (ap (λ b. b.segments) c.self.view_is)
