-- What the interceptor of the user agent does.
use Rattle.std.specs.Prelude.{◌≡◌, ℕ, List, [], ◌∷◌, ◌++◌, Option, Some, Result, Ok, Err, String, IsNone, IsSome, IsSomeAnd, MatchOption, codes, option_map, option_to_list, string_bytes}
use Rattle.std.specs.declared.alloc.Global.{Global}
use Rattle.smithy_core.specs.HeaderGrammar.{IsHeaderValue}
use Rattle.aws_intercept.specs.Agent.{Agent, agent_from, agent_text}
use Rattle.aws_intercept.specs.FeatureMetrics.{feature_metrics}
use Rattle.aws_intercept.specs.Frameworks.{oldest_frameworks}
use Rattle.aws_intercept.specs.Metadata.{Api, IsMetadataIfSome}
use Rattle.aws_intercept.specs.declared.bag.ConfigBag.{ConfigBag}
use Rattle.aws_intercept.specs.declared.user_agent.build.BuildMetadata.{BuildMetadata}
use Rattle.aws_intercept.specs.declared.user_agent.interceptor.UserAgentFault.{UserAgentFault}
use Rattle.aws_intercept.specs.declared.user_agent.interceptor.UserAgentFault.TheVariants.{MissingApiMetadata, MissingUserAgent, InvalidMetadataValue, InvalidHeaderValue, NoMemory}

-- the agent for this service that a bag without one gets
abbrev pub made_agent : List (List ℕ × List ℕ) → BuildMetadata → ConfigBag → Api → Agent
made_agent env build bag api =
    record (agent_from env api build) { frameworks = oldest_frameworks bag.frameworks.items; app_name = bag.app_name }

-- the bag gets an agent where it has none, or has no API metadata to make one
abbrev pub MakesAgent : List (List ℕ × List ℕ) → BuildMetadata → ConfigBag → ConfigBag → Result (Unit {0}) UserAgentFault → Type 0
MakesAgent env build old new (Ok _) =
    MatchOption old.user_agent (IsSomeAnd old.api_metadata (λ api. new ≡ record old { user_agent = Some (made_agent env build old api) }))
    (λ _. new ≡ old)
MakesAgent env build old new (Err MissingApiMetadata) = IsNone old.user_agent × IsNone old.api_metadata × (new ≡ old)
MakesAgent env build old new (Err NoMemory) = new ≡ old
MakesAgent env build old new (Err _) = ⊥

-- the agent with what the bag tells besides: the metrics of its features, and its connector
abbrev pub sent_agent : ConfigBag → Agent → Agent
sent_agent bag agent = record agent {
  metrics = agent.metrics ++ feature_metrics bag;
  additional_metadata = agent.additional_metadata ++ option_to_list (option_map string_bytes bag.connector);
}

-- the headers with the text of this agent after them, under both of its names
abbrev pub with_agent_text : List (List ℕ × List ℕ) → List ℕ → List (List ℕ × List ℕ)
with_agent_text headers text = (headers ++ (codes "user-agent", text) ∷ []) ++ (codes "x-amz-user-agent", text) ∷ []

-- the text goes into both headers, or the first test that fails: an agent is there, the connector is metadata, the text is a header's value
abbrev pub SendsAgent : ConfigBag → List (List ℕ × List ℕ) → List (List ℕ × List ℕ) → Result (Unit {0}) UserAgentFault → Type 0
SendsAgent bag old new (Ok _) = IsSomeAnd bag.user_agent (λ agent. let text = agent_text (sent_agent bag agent) in
    IsMetadataIfSome (option_map string_bytes bag.connector) × IsHeaderValue text
    × (new ≡ with_agent_text old text))
SendsAgent bag old new (Err MissingUserAgent) = IsNone bag.user_agent × (new ≡ old)
SendsAgent bag old new (Err InvalidMetadataValue) =
    IsSome bag.user_agent × ¬ (IsMetadataIfSome (option_map string_bytes bag.connector)) × (new ≡ old)
SendsAgent bag old new (Err InvalidHeaderValue) = IsSomeAnd bag.user_agent (λ agent.
    IsMetadataIfSome (option_map string_bytes bag.connector) × ¬ (IsHeaderValue (agent_text (sent_agent bag agent))) × (new ≡ old))
SendsAgent bag old new (Err NoMemory) = new ≡ old
SendsAgent bag old new (Err MissingApiMetadata) = ⊥

-- the agent that a bag without one gets, or that its API metadata is missing
abbrev pub MakesNewAgent : List (List ℕ × List ℕ) → BuildMetadata → ConfigBag → Result Agent UserAgentFault → Type 0
MakesNewAgent env build bag (Ok agent) = IsSomeAnd bag.api_metadata (λ api. agent ≡ made_agent env build bag api)
MakesNewAgent env build bag (Err MissingApiMetadata) = IsNone bag.api_metadata
MakesNewAgent env build bag (Err NoMemory) = Unit {0}
MakesNewAgent env build bag (Err _) = ⊥

-- the text that a bag's agent sends, or the first test that fails: the connector is metadata, the text is a header's value
abbrev pub SendsText : ConfigBag → Agent → Result (String Global) UserAgentFault → Type 0
SendsText bag agent (Ok text) =
    IsMetadataIfSome (option_map string_bytes bag.connector) × IsHeaderValue (agent_text (sent_agent bag agent))
    × (string_bytes text ≡ agent_text (sent_agent bag agent))
SendsText bag agent (Err InvalidMetadataValue) = ¬ (IsMetadataIfSome (option_map string_bytes bag.connector))
SendsText bag agent (Err InvalidHeaderValue) =
    IsMetadataIfSome (option_map string_bytes bag.connector) × ¬ (IsHeaderValue (agent_text (sent_agent bag agent)))
SendsText bag agent (Err NoMemory) = Unit {0}
SendsText bag agent (Err _) = ⊥

-- the agent with the connector as an additional value where there is one, or the fault where it isn't metadata
abbrev pub AddsConnector : Option (List ℕ) → Agent → Result Agent UserAgentFault → Type 0
AddsConnector connector agent (Ok more) =
    IsMetadataIfSome connector × (more ≡ record agent { additional_metadata = agent.additional_metadata ++ option_to_list connector })
AddsConnector connector agent (Err InvalidMetadataValue) = ¬ (IsMetadataIfSome connector)
AddsConnector connector agent (Err NoMemory) = Unit {0}
AddsConnector connector agent (Err _) = ⊥

-- what the fault prints
abbrev pub user_agent_fault_text : UserAgentFault → List ℕ
user_agent_fault_text MissingApiMetadata = codes "the API metadata is missing"
user_agent_fault_text MissingUserAgent = codes "the user agent is missing"
user_agent_fault_text InvalidMetadataValue = codes "the connector is no metadata value"
user_agent_fault_text InvalidHeaderValue = codes "the user agent is no header value"
user_agent_fault_text NoMemory = codes "no memory"
