use Rattle.std.proofs.Common.{rules}
use Rattle.event_io.proofs.signed_event.SignedUnmarshaller.unwrap_held.Goals as goal

pub returns : goal.returns
returns g c = (c.in_ok-held.held, c.in_ok-made.made, search rules, search rules, search rules)
