use Rattle.std.proofs.Common.{◌≡◌, ◌++◌, ℕ, List, Option, take}
use Rattle.smithy_core.specs.Message.{Parts}
use Rattle.awsign_events.specs.VerifyEvents.{PrintsUpTo}
use Rattle.awsign_events.proofs.verify.print_events.Given as goal

-- the events so far are printed behind those before the call
abbrev pub invariant-events : goal.invariant-events
invariant-events g l =
    let sink = g.K.ByteSink in
    record {
      prints : (first : List Parts) (before : Option (List ℕ)) → PrintsUpTo l.form first l.place before (sink.held l.fn.out)
          → PrintsUpTo l.form (first ++ take l.event-index l.events) l.next before (sink.held l.out);
      writes : sink.faults l.out ≡ sink.faults l.fn.out;
    }
