use Rattle.aws_intercept.proofs.MetricIdsLemmas.{last_comma_step}
use Rattle.aws_intercept.proofs.user_agent.metric_ids.last_comma.Goals as goal

pub loop-at-preserved : goal.loop-at-preserved
loop-at-preserved c =
    last_comma_step c.args.ids.now c.loop-at.at c.loop-at.last c.if_comma-last.result c.loop-at-test.true
    c.loop-at.invariant.0 c.loop-at.invariant.1 c.if_comma-last.ensures
