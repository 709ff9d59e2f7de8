use Rattle.std.proofs.Common.{◌≡◌, take}
use Rattle.aws_intercept.specs.Distinct.{distinct}
use Rattle.aws_intercept.specs.Metric.{is_metric}
use Rattle.aws_intercept.proofs.user_agent.distinct.distinct_metrics.Given as goal

abbrev pub invariant-loop-metric : goal.invariant-loop-metric
invariant-loop-metric l = l.kept.items ≡ distinct is_metric (take l.metric-index l.metrics)
