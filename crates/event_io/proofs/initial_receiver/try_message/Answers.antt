use Rattle.std.proofs.Common.{refl, sym, ◌∙◌}
use Rattle.event_io.proofs.initial_receiver.try_message.Goals as goal

-- another message is kept
pub returns-in-Ok-2-clause-tries : goal.returns-in-Ok-2-clause-tries
returns-in-Ok-2-clause-tries g c =
    rw (← c.in-Ok.ensures)
    (((c.in-Ok-call_once.first, c.in-Ok-call_once.made), c.in-Ok-call_once.ensures, sym c.is_initial.ensures ∙ c.if-is_initial.false), refl)
