use Rattle.std.proofs.Common.{◌≡◌, ◌++◌, map, string_bytes, take}
use Rattle.aws_intercept.specs.Agent.{spaced}
use Rattle.aws_intercept.specs.Metadata.{framework_text}
use Rattle.aws_intercept.proofs.user_agent.agent.text.push_frameworks.Given as goal

abbrev pub invariant-loop-framework : goal.invariant-loop-framework
invariant-loop-framework l =
    string_bytes l.text ≡ string_bytes l.fn.text ++ spaced (map framework_text (take l.framework-index l.frameworks))
