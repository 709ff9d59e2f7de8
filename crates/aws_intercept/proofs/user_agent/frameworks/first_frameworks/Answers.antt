use Rattle.aws_intercept.proofs.KeptLemmas.{first_frameworks_step}
use Rattle.aws_intercept.proofs.user_agent.frameworks.first_frameworks.Goals as goal

pub loop-framework-preserved : goal.loop-framework-preserved
loop-framework-preserved c =
    first_frameworks_step c.args.frameworks.now c.loop-framework.kept.items _ c.loop-framework.framework-index c.framework-item.result
    c.loop-framework-test.true c.framework-item.is c.loop-framework.invariant c.in_ok-keep.ensures
