use Rattle.std.proofs.Common.{◌≡◌, drop}
use Rattle.smithy_core.specs.Outside.{GainsRest}
use Rattle.signed_stream.specs.EventLines.{event_lines}
use Rattle.signed_stream.proofs.event_lines.write_lines.Given as goal

-- the lines of the events to come are what is left to write
abbrev pub invariant-events : goal.invariant-events
invariant-events g l =
    let sink = g.K.ByteSink in
    record {
      goes_on : GainsRest (sink.held l.fn.out) (sink.held l.out) (event_lines (drop l.event-index l.events)) (event_lines l.events);
      steady : sink.faults l.out ≡ sink.faults l.fn.out;
    }
