use Rattle.std.proofs.Common.{◌≡◌, length}
use Rattle.smithy_core.specs.Outside.{GainsRest}
use Rattle.smithy_core.proofs.outside.write_all.write_all.Given as goal

-- what was written and the rest are the piece
abbrev pub invariant-writes : goal.invariant-writes
invariant-writes g l =
    let sink = g.K.ByteSink in
    record {
      gained : GainsRest (sink.held l.fn.sink) (sink.held l.sink) l.rest l.fn.piece;
      count : sink.faults l.sink ≡ sink.faults l.fn.sink;
    }

abbrev pub decreases-writes : goal.decreases-writes
decreases-writes g l = length l.rest
