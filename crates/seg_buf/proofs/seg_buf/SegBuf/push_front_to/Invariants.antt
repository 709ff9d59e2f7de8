use Rattle.std.proofs.Common.{◌≤◌, length}
use Rattle.std.specs.VecDeque.Iter.{deque_iter_rest}
use Rattle.seg_buf.proofs.SegmentLemmas.{AreSplit}
use Rattle.seg_buf.proofs.seg_buf.SegBuf.push_front_to.Given as goal

-- what was appended and what the pieces have left are all bytes
abbrev pub invariant-loop-piece : goal.invariant-loop-piece
invariant-loop-piece l =
    let pieces = deque_iter_rest l.piece-iterator in
    record {
      can : (goal.iterator-loop-piece).can_next l.piece-iterator;
      finite : (goal.iterator-loop-piece).is_finite l.piece-iterator;
      few : length l.front.items ≤ l.n;
      split : AreSplit l.front.items pieces l.taken l.self.bytes;
    }
