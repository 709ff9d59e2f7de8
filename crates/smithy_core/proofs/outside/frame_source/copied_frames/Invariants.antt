use Rattle.std.proofs.Common.{◌≡◌, ◌++◌}
use Rattle.std.specs.VecDeque.Iter.{deque_iter_rest}
use Rattle.smithy_core.proofs.outside.frame_source.copied_frames.Given as goal

-- the copies so far and the frames that are left are all frames
abbrev pub invariant-loop-frame : goal.invariant-loop-frame
invariant-loop-frame l = record {
  can : (goal.iterator-loop-frame).can_next l.frame-iterator;
  finite : (goal.iterator-loop-frame).is_finite l.frame-iterator;
  items : l.copies.items ++ deque_iter_rest l.frame-iterator ≡ l.frames.items;
}
