use Rattle.std.proofs.Common.{inl, inr}
use Rattle.awsign_verify.proofs.run.judge_input.Goals as goal

pub returns-in-Ok-clause-judges : goal.returns-in-Ok-clause-judges
returns-in-Ok-clause-judges g c =
    inl (c.in-Ok.received.bytes.items, c.in-Ok.received.request, c.in-Ok.ensures.receives.0, c.in-Ok.ensures.receives.1, c.judge_received.ensures.judges)

pub returns-in-Err-clause-judges : goal.returns-in-Err-clause-judges
returns-in-Err-clause-judges g c = inr c.in-Err.ensures.receives
