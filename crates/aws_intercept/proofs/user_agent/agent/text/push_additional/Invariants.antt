use Rattle.std.proofs.Common.{◌≡◌, ◌++◌, map, string_bytes, take}
use Rattle.aws_intercept.specs.Agent.{spaced}
use Rattle.aws_intercept.specs.Metadata.{additional_text}
use Rattle.aws_intercept.proofs.user_agent.agent.text.push_additional.Given as goal

abbrev pub invariant-loop-metadata : goal.invariant-loop-metadata
invariant-loop-metadata l =
    string_bytes l.text ≡ string_bytes l.fn.text ++ spaced (map additional_text (take l.metadata-index l.additional))
