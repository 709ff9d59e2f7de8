use Rattle.std.proofs.Common.{◌≡◌, take}
use Rattle.aws_intercept.proofs.user_agent.additional.copied_additional.Given as goal

abbrev pub invariant-loop-metadata : goal.invariant-loop-metadata
invariant-loop-metadata l = l.copies.items ≡ take l.metadata-index l.additional
