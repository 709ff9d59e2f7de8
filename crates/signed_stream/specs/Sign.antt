-- What signing a job's request promises.
use Rattle.std.specs.Prelude.{◌≡◌, ℕ, List, Result, Ok, Err, Option, Some, None, option_map, String, string_bytes}
use Rattle.std.specs.Option.{option_or}
use Rattle.std.specs.declared.alloc.Global.{Global}
use Rattle.smithy_core.specs.Identity.{secret_of}
use Rattle.smithy_core.specs.Moment.{Instant}
use Rattle.smithy_core.specs.declared.identity.Identity.{Identity}
use Rattle.smithy_core.specs.declared.request.HttpRequest.{HttpRequest}
use Rattle.smithy_http.specs.Target.{Target}
use Rattle.sigv4.specs.Refusal.{unfit_request}
use Rattle.sigv4.specs.Request.{Case, key_id_of, token_of}
use Rattle.sigv4.specs.Signed.{signature_of, signed_headers, signed_target}
use Rattle.sigv4.specs.declared.error.SigningError.{SigningError}
use Rattle.sigv4.specs.declared.error.SigningError.TheVariants as errors
use Rattle.eventstream.specs.Told.{signs_over}
use Rattle.aws_auth.specs.Inputs.{chosen_text}
use Rattle.aws_auth.specs.MessageSigner.{SignerState, running_signature, signer_in, told_of}
use Rattle.aws_auth.specs.declared.error.SigV4SigningError.{SigV4SigningError}
use Rattle.aws_auth.specs.declared.error.SigV4SigningError.TheVariants as auth
use Rattle.aws_auth.specs.declared.name_override.OverrideError.{OverrideError}
use Rattle.aws_auth.specs.declared.name_override.OverrideError.TheVariants as overrides
use Rattle.signed_stream.specs.Case.{request_moment, settings_with}
use Rattle.signed_stream.specs.Chain.{outside_years}
use Rattle.signed_stream.specs.Command.{Wanted}
use Rattle.signed_stream.specs.Plan.{TargetSpells, TargetRead, accepted, unaccepted, unread}
use Rattle.signed_stream.specs.Status.{Ending, RunFault, invalid_header_name, invalid_header_value, invalid_token_name, invalid_uri, missing_expires, missing_host, moment_out_of_range, no_memory, refused, stream_ending}
use Rattle.signed_stream.specs.declared.status.StreamFault.{StreamFault}

-- ## Why a request is refused

-- the fault that says why a request isn't signed; the last reason is its target
abbrev pub run_fault_for : SigningError → RunFault
run_fault_for (errors.InvalidHeaderName place) = invalid_header_name place
run_fault_for (errors.InvalidHeaderValue place) = invalid_header_value place
run_fault_for errors.MissingHost = missing_host
run_fault_for errors.InvalidTokenName = invalid_token_name
run_fault_for errors.MissingExpires = missing_expires
run_fault_for (errors.MomentOutOfRange moment) = moment_out_of_range moment
run_fault_for error = invalid_uri

abbrev pub case_fault : Case → Option RunFault
case_fault c = option_map run_fault_for (unfit_request c)

-- the fault of a request whose case is this for what its target spells
abbrev pub target_fault : (Target → Case) → TargetRead → Option RunFault
target_fault case unread = None
target_fault case unaccepted = Some invalid_uri
target_fault case (accepted target) = case_fault (case target)

-- its fault, where the moment is tested first
abbrev pub request_fault : Instant → (Target → Case) → TargetRead → Option RunFault
request_fault at case target = option_or (outside_years at) (target_fault case target)

-- ## What is signed

-- the case of a request that an identity signs for a region at its first moment, as it is wanted, for what its target spells
abbrev pub identity_case : HttpRequest → Identity → List ℕ → Wanted → Instant → Target → Case
identity_case request identity region wanted first target = record {
  method = string_bytes request.method;
  target = target;
  headers = request.headers;
  payload = chosen_text wanted.signing.payload_override request.body;
  settings = settings_with wanted.signing wanted.token_name;
  key_id = key_id_of identity;
  token = token_of identity;
  signer = record { secret = secret_of identity; region = region; name = wanted.name };
  at = request_moment wanted first;
}

-- the request goes out as the signed one of the case
pub record IsSignedFor (c : Case) (old new : HttpRequest) : Type 0 where
  pub method : string_bytes new.method ≡ c.method
  pub target : string_bytes new.target ≡ signed_target c (string_bytes old.target)
  pub headers : new.headers ≡ signed_headers c
  pub body : new.body ≡ old.body

-- the signer signs messages for who signs the case, over its signature
pub record SealsFor (c : Case) (signer : SignerState (Unit {0})) : Type 0 where
  pub told : told_of signer ≡ signs_over (running_signature signer) (signer_in signer)
  pub signature : running_signature signer ≡ signature_of c
  pub who : signer_in signer ≡ c.signer

-- why a request isn't signed: the first test that fails, or memory ran out
abbrev pub Unsigned : List ℕ → Instant → (Target → Case) → Ending → Type 0
Unsigned text at case (refused fault) = (target : TargetRead) × TargetSpells text target × (request_fault at case target ≡ Some fault)
Unsigned text at case no_memory = Unit {0}
Unsigned text at case end = ⊥

-- where no test fails the answer is the signed request, and a signer that goes on from its signature
abbrev pub SignsJob : Instant → (Target → Case) → HttpRequest → Result (HttpRequest × SignerState (Unit {0})) StreamFault → Type 0
SignsJob at case old (Ok signed) =
    (target : Target) × TargetSpells (string_bytes old.target) (accepted target) × (request_fault at case (accepted target) ≡ None)
    × IsSignedFor (case target) old signed.0 × SealsFor (case target) signed.1
SignsJob at case old (Err fault) = Unsigned (string_bytes old.target) at case (stream_ending fault)

-- ## Between the functions that sign: a reader of `run` needs none of it

-- the errors of signing a request under credentials, a config, a region and a name, by an override that doesn't refuse
abbrev pub IsRequestError : SigV4SigningError → Type 0
IsRequestError (auth.Signing errors.InvalidUri) = Unit {0}
IsRequestError (auth.Signing (errors.InvalidHeaderName place)) = Unit {0}
IsRequestError (auth.Signing (errors.InvalidHeaderValue place)) = Unit {0}
IsRequestError (auth.Signing errors.MissingHost) = Unit {0}
IsRequestError (auth.Signing errors.InvalidTokenName) = Unit {0}
IsRequestError (auth.Signing errors.MissingExpires) = Unit {0}
IsRequestError (auth.Signing (errors.MomentOutOfRange moment)) = Unit {0}
IsRequestError auth.NoMemory = Unit {0}
IsRequestError error = ⊥

-- how a run ends whose request isn't signed for the error
abbrev pub error_ending : SigV4SigningError → Ending
error_ending (auth.Signing error) = refused (run_fault_for error)
error_ending error = no_memory

-- the answer is the name that is asked for, or memory ran out
abbrev pub GivesName : Option (List ℕ) → Result (Option (String Global)) OverrideError → Type 0
GivesName asked (Ok name) = option_map string_bytes name ≡ asked
GivesName asked (Err error) = error ≡ overrides.NoMemory
