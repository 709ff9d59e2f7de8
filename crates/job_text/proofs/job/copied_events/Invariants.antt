use Rattle.std.proofs.Common.{◌≡◌, take}
use Rattle.job_text.proofs.job.copied_events.Given as goal

-- the copies are those of the events so far
abbrev pub invariant-loop-event : goal.invariant-loop-event
invariant-loop-event l = l.copies.items ≡ take l.event-index l.events
