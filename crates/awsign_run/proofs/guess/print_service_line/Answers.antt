use Rattle.std.proofs.Common.{inl}
use Rattle.awsign_run.proofs.guess.print_service_line.Goals as goal

pub returns-in-Ok-clause-prints : goal.returns-in-Ok-clause-prints
returns-in-Ok-clause-prints g c = inl (rw (c.as_str.ensures.value, c.in-Ok.ensures) at c.write_some.ensures.gains)
