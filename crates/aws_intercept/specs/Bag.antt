-- What the interceptors of one operation share.
use Rattle.std.specs.Prelude.{◌≡◌, [], None, option_map, string_bytes}
use Rattle.aws_intercept.specs.declared.bag.ConfigBag.{ConfigBag}

-- nothing is in the bag
pub record IsEmptyBag (bag : ConfigBag) : Type 0 where
  pub retry : bag.retry ≡ None
  pub timeout : bag.timeout ≡ None
  pub attempts : bag.attempts ≡ None
  pub attempt_skew : bag.attempt_skew ≡ None
  pub time_sent : bag.time_sent ≡ None
  pub disable_skew : bag.disable_skew ≡ None
  pub api_metadata : bag.api_metadata ≡ None
  pub user_agent : bag.user_agent ≡ None
  pub app_name : bag.app_name ≡ None
  pub invocation_id : bag.invocation_id ≡ None
  pub connector : bag.connector ≡ None
  pub frameworks : bag.frameworks.items ≡ []
  pub smithy_features : bag.smithy_features.items ≡ []
  pub aws_features : bag.aws_features.items ≡ []
  pub credential_features : bag.credential_features.items ≡ []

-- the copy holds what the bag holds
pub record IsSameBag (bag copy : ConfigBag) : Type 0 where
  pub retry : copy.retry ≡ bag.retry
  pub timeout : copy.timeout ≡ bag.timeout
  pub attempts : copy.attempts ≡ bag.attempts
  pub attempt_skew : copy.attempt_skew ≡ bag.attempt_skew
  pub time_sent : copy.time_sent ≡ bag.time_sent
  pub disable_skew : copy.disable_skew ≡ bag.disable_skew
  pub api_metadata : copy.api_metadata ≡ bag.api_metadata
  pub user_agent : copy.user_agent ≡ bag.user_agent
  pub app_name : copy.app_name ≡ bag.app_name
  pub invocation_id : copy.invocation_id ≡ bag.invocation_id
  pub connector : option_map string_bytes copy.connector ≡ option_map string_bytes bag.connector
  pub frameworks : copy.frameworks.items ≡ bag.frameworks.items
  pub smithy_features : copy.smithy_features.items ≡ bag.smithy_features.items
  pub aws_features : copy.aws_features.items ≡ bag.aws_features.items
  pub credential_features : copy.credential_features.items ≡ bag.credential_features.items
