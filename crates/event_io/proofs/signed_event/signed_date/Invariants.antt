use Rattle.std.proofs.Common.{◌≡◌, drop}
use Rattle.event_io.specs.SignedEvent.{signed_date}
use Rattle.event_io.proofs.signed_event.signed_date.Given as goal

-- the headers so far have none
abbrev pub invariant-loop-header : goal.invariant-loop-header
invariant-loop-header l = signed_date (drop l.header-index l.headers) ≡ signed_date l.headers
