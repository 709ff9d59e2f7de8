use Rattle.std.proofs.Common.{◌≡◌, ◌≤◌, IfSome, length, take}
use Rattle.aws_intercept.specs.MetricIds.{last_comma}
use Rattle.aws_intercept.proofs.user_agent.metric_ids.last_comma.Given as goal

abbrev pub invariant-loop-at : goal.invariant-loop-at
invariant-loop-at l = (l.last ≡ last_comma (take l.at l.ids)) × IfSome l.last (λ at. at ≤ length l.ids)
