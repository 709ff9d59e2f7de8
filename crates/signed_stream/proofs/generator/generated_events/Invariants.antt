use Rattle.std.proofs.Common.{◌≡◌, ◌-◌, ◌++◌}
use Rattle.signed_stream.specs.Generator.{drawn_events}
use Rattle.signed_stream.proofs.generator.generated_events.Given as goal

-- those so far, and then those that are left, are all
abbrev pub invariant-events : goal.invariant-events
invariant-events l = l.events.items ++ drawn_events (l.count - l._i) l.generator ≡ drawn_events l.count l.seed
