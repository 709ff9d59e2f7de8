use Rattle.std.proofs.Common.{◌≡◌, take}
use Rattle.aws_intercept.proofs.user_agent.frameworks.copied_frameworks.Given as goal

abbrev pub invariant-loop-framework : goal.invariant-loop-framework
invariant-loop-framework l = l.copies.items ≡ take l.framework-index l.frameworks
