use Rattle.std.proofs.Common.{◌≡◌, ◌≤◌, length, drop}
use Rattle.seg_buf.specs.Segments.{cut}
use Rattle.seg_buf.proofs.seg_buf.SegBuf.advance.Given as goal

-- what is left to drop would leave what dropping all leaves
abbrev pub invariant-loop-left : goal.invariant-loop-left
invariant-loop-left l = record {
  within : l.left ≤ length l.self.bytes;
  rest : drop l.left l.self.bytes ≡ drop l.n l.fn.self.bytes;
  segments : cut l.left l.self.segments ≡ cut l.n l.fn.self.segments;
  spare : l.fn.self.spare ≤ l.self.spare;
}

abbrev pub decreases-loop-left : goal.decreases-loop-left
decreases-loop-left l = l.left
