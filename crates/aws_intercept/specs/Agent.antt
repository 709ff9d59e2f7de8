-- The user agent: its parts, how it is made, and its text (the SDKs' user agent, version 2.1).
use Rattle.std.specs.Prelude.{ℕ, List, [], ◌∷◌, ◌++◌, Option, Some, None, codes, flat_map, map, option_map, option_to_list, string_bytes}
use Rattle.std.specs.List.{join_by}
use Rattle.smithy_core.specs.TextPairs.{last_value}
use Rattle.aws_intercept.specs.Build.{family_text}
use Rattle.aws_intercept.specs.Metadata.{Api, NameVersion, additional_text, api_text, framework_text, with_value}
use Rattle.aws_intercept.specs.MetricIds.{fitted, joined_ids}
use Rattle.aws_intercept.specs.declared.user_agent.build.BuildMetadata.{BuildMetadata}
use Rattle.aws_intercept.specs.declared.user_agent.build.OsFamily.{OsFamily}
use Rattle.aws_intercept.specs.declared.user_agent.build.OsFamily.TheVariants.{Windows}
use Rattle.aws_intercept.specs.declared.user_agent.metric.BusinessMetric.{BusinessMetric}

-- the parts that its text tells
pub record Agent : Type 0 where
  pub core_version : List ℕ
  pub agent_version : List ℕ
  pub api : Api
  pub os_family : OsFamily
  pub os_version : Option (List ℕ)
  pub language_version : List ℕ
  pub execution_environment : Option (List ℕ)
  pub metrics : List BusinessMetric
  pub frameworks : List NameVersion
  pub additional_metadata : List (List ℕ)
  pub app_name : Option (List ℕ)
  pub build : Option (List ℕ)

-- the agent of a program that was built so, for this service, in this environment
abbrev pub agent_from : List (List ℕ × List ℕ) → Api → BuildMetadata → Agent
agent_from env api build = record {
  core_version = string_bytes build.core_version;
  agent_version = codes "2.1";
  api = api;
  os_family = build.os_family;
  os_version = None;
  language_version = string_bytes build.rust_version;
  execution_environment = last_value env (codes "AWS_EXECUTION_ENV");
  metrics = [];
  frameworks = [];
  additional_metadata = [];
  app_name = None;
  build = build.extra;
}

-- the agent that tests of a client compare with
abbrev pub agent_for_tests : Agent
agent_for_tests = record {
  core_version = codes "0.123.test";
  agent_version = codes "0.1";
  api = record { service_id = codes "test-service"; version = codes "0.123" };
  os_family = Windows;
  os_version = Some (codes "XPSP3");
  language_version = codes "1.50.0";
  execution_environment = None;
  metrics = [];
  frameworks = [];
  additional_metadata = [];
  app_name = None;
  build = None;
}

-- the most bytes of the ids of metrics
abbrev pub most_id_bytes : ℕ
most_id_bytes = 1024

-- `m/IDS`, where there are metrics
abbrev pub metric_part : List BusinessMetric → Option (List ℕ)
metric_part [] = None
metric_part (metric ∷ metrics) = Some (codes "m/" ++ fitted most_id_bytes (joined_ids (metric ∷ metrics)))

-- the parts of the text in order
abbrev pub agent_parts : Agent → List (List ℕ)
agent_parts agent =
    (codes "aws-sdk-rust/" ++ agent.core_version)
    ∷ (codes "ua/" ++ agent.agent_version)
    ∷ api_text agent.api
    ∷ (codes "os/" ++ (family_text agent.os_family ++ with_value (codes "/") agent.os_version))
    ∷ (codes "lang/rust/" ++ agent.language_version)
    ∷ (option_to_list (option_map (λ name. codes "exec-env/" ++ name) agent.execution_environment)
    ++ (option_to_list (metric_part agent.metrics)
    ++ (map framework_text agent.frameworks
    ++ (map additional_text agent.additional_metadata
    ++ (option_to_list (option_map (λ name. codes "app/" ++ name) agent.app_name)
    ++ option_to_list (option_map additional_text agent.build))))))

-- the text: the parts, one space between
unfoldable pub agent_text : Agent → List ℕ
agent_text agent = join_by (λ part. part) (codes " ") (agent_parts agent)

-- parts, each after a space
abbrev pub spaced : List (List ℕ) → List ℕ
spaced parts = flat_map (λ part. codes " " ++ part) parts

-- the parts that each agent has, with spaces between
abbrev pub system_text : Agent → List ℕ
system_text agent =
    (((codes "aws-sdk-rust/" ++ (agent.core_version ++ (codes " ua/" ++ (agent.agent_version ++ (codes " " ++ (api_text agent.api
    ++ (codes " os/" ++ family_text agent.os_family)))))))
    ++ with_value (codes "/") agent.os_version) ++ codes " lang/rust/") ++ agent.language_version
