use Rattle.std.proofs.Common.{◌≤◌, length, take}
use Rattle.std.specs.VecDeque.Iter.{deque_iter_rest}
use Rattle.seg_buf.proofs.SegmentLemmas.{AreSplit}
use Rattle.seg_buf.proofs.seg_buf.SegBuf.copy_into.Given as goal

-- what was filled and what the pieces have left are all bytes
abbrev pub invariant-loop-piece : goal.invariant-loop-piece
invariant-loop-piece l =
    let pieces = deque_iter_rest l.piece-iterator in
    record {
      can : (goal.iterator-loop-piece).can_next l.piece-iterator;
      finite : (goal.iterator-loop-piece).is_finite l.piece-iterator;
      filled : l.filled ≤ length l.into;
      split : AreSplit (take l.filled l.into) pieces l.taken l.self.bytes;
    }
