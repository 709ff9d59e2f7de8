use Rattle.std.proofs.Common.{◌≡◌, take}
use Rattle.aws_intercept.specs.Frameworks.{first_frameworks}
use Rattle.aws_intercept.proofs.user_agent.frameworks.first_frameworks.Given as goal

abbrev pub invariant-loop-framework : goal.invariant-loop-framework
invariant-loop-framework l = l.kept.items ≡ first_frameworks (take l.framework-index l.frameworks)
