use Rattle.std.proofs.Common.{◌≡◌, ◌<◌, ℕ, List, length}
use Rattle.smithy_core.specs.Outside.{IsCutOf}
use Rattle.signed_stream.specs.WatchChain.{Advances, IsFit, IsIdle, room_of}
use Rattle.signed_stream.proofs.watch_chain.Progress.read.Given as goal

-- what was read advanced the watch, and what is left is the rest of the input
abbrev pub invariant-pieces : goal.invariant-pieces
invariant-pieces g l =
    let source = g.S.ByteSource in
    let sink = g.K.ByteSink in
    record {
      room : 0 < length l.piece;
      fit : IsFit l.self;
      idle : IsIdle l.self;
      taken : (taken : List ℕ) × IsCutOf (source.left l.fn.input) taken (source.left l.input) × Advances l.fn.self taken l.self (sink.held l.fn.out) (sink.held l.out);
      reads : source.faults l.input ≡ source.faults l.fn.input;
      writes : sink.faults l.out ≡ sink.faults l.fn.out;
    }

abbrev pub decreases-pieces : goal.decreases-pieces
decreases-pieces g l = room_of l.self
