use Rattle.std.proofs.Common.{◌≡◌, ◌+◌, ◌++◌, length}
use Rattle.std.specs.VecDeque.{deque_len, deque_capacity}
use Rattle.std.specs.VecDeque.Iter.{deque_iter_rest}
use Rattle.seg_buf.proofs.seg_buf.SegBuf.try_clone.Given as goal

-- the copies so far and the pieces that are left are all pieces, in as much room
abbrev pub invariant-loop-piece : goal.invariant-loop-piece
invariant-loop-piece l =
    let pieces = l.self-inside.pieces in
    record {
      can : (goal.iterator-loop-piece).can_next l.piece-iterator;
      finite : (goal.iterator-loop-piece).is_finite l.piece-iterator;
      items : l.pieces.items ++ deque_iter_rest l.piece-iterator ≡ pieces.items;
      capacity : deque_capacity l.pieces ≡ deque_capacity pieces;
      len : deque_len l.pieces + length (deque_iter_rest l.piece-iterator) ≡ deque_len pieces;
    }
