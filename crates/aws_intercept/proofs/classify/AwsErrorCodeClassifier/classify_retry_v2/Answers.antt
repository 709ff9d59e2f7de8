use Rattle.aws_intercept.proofs.ClassifyLemmas.{again_before, again_own}
use Rattle.aws_intercept.proofs.classify.AwsErrorCodeClassifier.classify_retry_v2.Goals as goal

pub returns-in-NoActionIndicated : goal.returns-in-NoActionIndicated
returns-in-NoActionIndicated c = again_before _ _ _ _ c.in-NoActionIndicated.ensures c.delayed.ensures

pub returns-in_default : goal.returns-in_default
returns-in_default c = again_own _ _ _ _ c.classify_retry.ensures c.in_default.not-NoActionIndicated
