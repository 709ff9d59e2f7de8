-- The metrics of the features that a bag tells.
use Rattle.std.specs.Prelude.{List, ◌++◌, map, reverse}
use Rattle.aws_intercept.specs.Distinct.{distinct}
use Rattle.aws_intercept.specs.Metric.{is_metric}
use Rattle.aws_intercept.specs.SdkFeature.{aws_metric, credential_metric, smithy_metric}
use Rattle.aws_intercept.specs.declared.bag.ConfigBag.{ConfigBag}
use Rattle.aws_intercept.specs.declared.user_agent.metric.BusinessMetric.{BusinessMetric}

-- the metrics of a bag's features, each once: those of the SDK and of the services newest first, those of credentials oldest
-- first, where the newest of equal ones stands
unfoldable pub feature_metrics : ConfigBag → List BusinessMetric
feature_metrics bag =
    distinct is_metric (map smithy_metric bag.smithy_features.items ++ map aws_metric bag.aws_features.items)
    ++ reverse (distinct is_metric (map credential_metric bag.credential_features.items))
