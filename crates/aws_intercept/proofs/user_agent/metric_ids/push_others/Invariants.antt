use Rattle.std.proofs.Common.{◌≡◌, ◌++◌, codes, flat_map, string_bytes, take}
use Rattle.aws_intercept.specs.Metric.{metric_id}
use Rattle.aws_intercept.proofs.user_agent.metric_ids.push_others.Given as goal

abbrev pub invariant-loop-metric : goal.invariant-loop-metric
invariant-loop-metric l =
    string_bytes l.ids ≡ string_bytes l.fn.ids ++ flat_map (λ metric. codes "," ++ metric_id metric) (take l.metric-index l.metrics)
