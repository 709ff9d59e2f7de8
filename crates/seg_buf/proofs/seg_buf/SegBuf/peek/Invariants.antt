use Rattle.std.proofs.Common.{◌≡◌, ◌<◌, length, slice_index}
use Rattle.std.specs.VecDeque.Iter.{deque_iter_rest}
use Rattle.seg_buf.specs.Segments.{flat, AreLive}
use Rattle.seg_buf.proofs.seg_buf.SegBuf.peek.Given as goal

-- the place that is left, in the pieces that are left, is the place that was asked for
abbrev pub invariant-loop-piece : goal.invariant-loop-piece
invariant-loop-piece l =
    let pieces = deque_iter_rest l.piece-iterator in
    record {
      can : (goal.iterator-loop-piece).can_next l.piece-iterator;
      finite : (goal.iterator-loop-piece).is_finite l.piece-iterator;
      live : AreLive pieces l.taken;
      within : l.left < length (flat pieces l.taken);
      same : slice_index (flat pieces l.taken) l.left ≡ slice_index l.self.bytes l.at;
    }
