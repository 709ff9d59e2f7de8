-- One attempt of an operation: the request that it sends, and why it sends none.
use Rattle.std.specs.Prelude.{◌≡◌, ℕ, List, Option, Some, None, Ok, IsNone, IsSome, IsSomeAnd, codes, option_map, string_bytes}
use Rattle.std.specs.Option.{option_map_or}
use Rattle.smithy_core.specs.HeaderGrammar.{IsHeaderValue}
use Rattle.smithy_core.specs.Moment.{Instant}
use Rattle.smithy_core.specs.TextPairs.{inserted}
use Rattle.smithy_core.specs.declared.identity.Identity.{Identity}
use Rattle.smithy_core.specs.declared.request.HttpRequest.{HttpRequest}
use Rattle.smithy_http.specs.Target.{Target}
use Rattle.sigv4.specs.Request.{Case}
use Rattle.sigv4.specs.Signed.{signed_headers, signed_target}
use Rattle.aws_auth.specs.Inputs.{chosen, chosen_case}
use Rattle.aws_auth.specs.Signer.{SpellsAs, refusal_before_override, refusal_before_target, signing_refusal}
use Rattle.aws_auth.specs.declared.error.SigV4SigningError.{SigV4SigningError}
use Rattle.aws_auth.specs.declared.inputs.SigningInputs.{SigningInputs}
use Rattle.aws_intercept.specs.Agent.{agent_text}
use Rattle.aws_intercept.specs.Interceptor.{sent_agent, with_agent_text}
use Rattle.aws_intercept.specs.Invocation.{with_id_header}
use Rattle.aws_intercept.specs.Metadata.{IsMetadataIfSome}
use Rattle.aws_intercept.specs.Recursion.{traced}
use Rattle.aws_intercept.specs.RequestInfo.{info_text}
use Rattle.aws_intercept.specs.declared.bag.ConfigBag.{ConfigBag}
use Rattle.aws_intercept.specs.declared.user_agent.interceptor.UserAgentFault.{UserAgentFault}
use Rattle.aws_intercept.specs.declared.user_agent.interceptor.UserAgentFault.TheVariants.{MissingUserAgent, InvalidMetadataValue, InvalidHeaderValue}
use Rattle.operation_run.specs.Reply.{RequestTexts}

-- what an operation is given, which no attempt changes: its request, who signs, by what, and the environment
pub record OperationParts : Type 0 where
  pub request : HttpRequest
  pub identity : Identity
  pub inputs : SigningInputs
  pub env : List (List ℕ × List ℕ)

-- ## Dressed

-- the headers with the bag's agent after them, where it has one
abbrev pub with_bag_agent : ConfigBag → List (List ℕ × List ℕ) → List (List ℕ × List ℕ)
with_bag_agent bag headers = option_map_or (λ agent. with_agent_text headers (agent_text (sent_agent bag agent))) bag.user_agent headers

-- the operation's request with the trace of the environment and the bag's user agent, as it is before it is signed
abbrev pub dressed : OperationParts → ConfigBag → HttpRequest
dressed parts bag = record parts.request { headers = with_bag_agent bag (traced parts.env parts.request.headers) }

-- the bag has an agent, its connector is metadata, and the agent's text is a header's value
abbrev pub PassesAgent : ConfigBag → Type 0
PassesAgent bag = IsSomeAnd bag.user_agent (λ agent. IsMetadataIfSome (option_map string_bytes bag.connector) × IsHeaderValue (agent_text (sent_agent bag agent)))

-- the first of these tests that fails, which this fault tells
abbrev pub RefusesAgent : ConfigBag → UserAgentFault → Type 0
RefusesAgent bag MissingUserAgent = IsNone bag.user_agent
RefusesAgent bag InvalidMetadataValue = IsSome bag.user_agent × ¬ (IsMetadataIfSome (option_map string_bytes bag.connector))
RefusesAgent bag InvalidHeaderValue =
    IsSomeAnd bag.user_agent (λ agent. IsMetadataIfSome (option_map string_bytes bag.connector) × ¬ (IsHeaderValue (agent_text (sent_agent bag agent))))
RefusesAgent bag _ = ⊥

-- ## Signed

-- the inputs with the skew that the bag holds in place of their own
abbrev pub skewed_inputs : SigningInputs → ConfigBag → SigningInputs
skewed_inputs inputs bag = record inputs { skew_millis = bag.attempt_skew }

-- the first test that fails where the dressed request is signed at a moment, for what its target spells: no override of the token's name is asked
abbrev pub attempt_refusal : OperationParts → ConfigBag → Instant → Option Target → Option SigV4SigningError
attempt_refusal parts bag first target = signing_refusal (dressed parts bag) parts.identity (skewed_inputs parts.inputs bag) first (Ok None) target

-- the case of the dressed request at a moment, for what its target spells
abbrev pub attempt_case : OperationParts → ConfigBag → Instant → Target → Case
attempt_case parts bag first target = chosen_case (dressed parts bag) parts.identity (chosen (skewed_inputs parts.inputs bag) first) None target

-- a test fails with this error where the dressed request is signed, and no test before it: the target is read where those before it pass
pub record RefusesSigning (parts : OperationParts) (bag : ConfigBag) (first : Instant) (error : SigV4SigningError) : Type 0 where
  pub agent : PassesAgent bag
  pub target : Option Target
  pub read : refusal_before_override parts.identity (skewed_inputs parts.inputs bag) ≡ None → refusal_before_target (chosen (skewed_inputs parts.inputs bag) first) (Ok None) ≡ None
      → SpellsAs (string_bytes parts.request.target) target
  pub refused : attempt_refusal parts bag first target ≡ Some error

-- ## Sent

-- the request that an attempt sends: the signed one of its case, with the invocation's id after its headers, and the attempt's number among them
abbrev pub sent_request : OperationParts → ConfigBag → Instant → Target → RequestTexts
sent_request parts bag first target = let c = attempt_case parts bag first target in record {
  method = string_bytes parts.request.method;
  target = signed_target c (string_bytes parts.request.target);
  headers = inserted (with_id_header (signed_headers c) bag.invocation_id) (codes "amz-sdk-request") (info_text first bag);
  body = parts.request.body;
}

-- no test fails in the attempt of this bag, which signs at this moment, and this is the request that it sends
pub record IsSent (parts : OperationParts) (bag : ConfigBag) (first : Instant) (request : RequestTexts) : Type 0 where
  pub agent : PassesAgent bag
  pub target : Target
  pub read : SpellsAs (string_bytes parts.request.target) (Some target)
  pub passed : attempt_refusal parts bag first (Some target) ≡ None
  pub made : request ≡ sent_request parts bag first target
