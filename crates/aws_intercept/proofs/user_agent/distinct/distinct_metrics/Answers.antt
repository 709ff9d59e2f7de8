use Rattle.aws_intercept.proofs.KeptLemmas.{distinct_metrics_step}
use Rattle.aws_intercept.proofs.user_agent.distinct.distinct_metrics.Goals as goal

pub loop-metric-preserved : goal.loop-metric-preserved
loop-metric-preserved c =
    distinct_metrics_step c.args.metrics.now c.loop-metric.kept.items _ c.loop-metric.metric-index _ c.loop-metric-test.true
    c.loop-metric.invariant c.in_ok-push_new.ensures
