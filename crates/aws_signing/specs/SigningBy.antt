-- What a signer is, and what signing a request by it promises.
use Rattle.std.specs.Prelude.{◌≡◌, ◌⊎◌, ℕ, List, [], Option, Some, None, unwrap_or, Result, Ok, Err, String, string_bytes}
use Rattle.std.specs.Option.{option_or}
use Rattle.std.specs.declared.alloc.Global.{Global}
use Rattle.sha2.specs.Sha256.{sha256}
use Rattle.hex.specs.Hex.{encode_lower}
use Rattle.smithy_core.specs.Identity.{access_key_id, secret_access_key}
use Rattle.smithy_core.specs.Moment.{Instant}
use Rattle.smithy_core.specs.declared.identity.Credentials.{Credentials as Keys}
use Rattle.smithy_core.specs.declared.request.HttpRequest.{HttpRequest}
use Rattle.smithy_http.specs.Target.{Target}
use Rattle.sigv4.specs.ChunkTold.{unsigned_chunk_at}
use Rattle.sigv4.specs.Parameters.{SpellsParts}
use Rattle.sigv4.specs.Params.{signer_of, v4_identity, v4_settings, v4_time}
use Rattle.sigv4.specs.Query.{Pair}
use Rattle.sigv4.specs.Request.{Case, key_id_of, token_of}
use Rattle.sigv4.specs.Settings.{Settings, settings_of}
use Rattle.sigv4.specs.Signed.{signature_of, signed_headers, signed_target}
use Rattle.sigv4.specs.declared.error.SigningError.{SigningError}
use Rattle.sigv4.specs.declared.settings.SignatureLocation.TheVariants.{QueryParams}
use Rattle.sigv4.specs.declared.signing_params.SigningParams.{SigningParams}
use Rattle.sigv4.specs.declared.signing_params.SigningParams.TheVariants.{V4}
use Rattle.aws_auth.specs.Signer.{unsigned_target}
use Rattle.aws_auth.specs.Steps.{RefusesTarget}
use Rattle.aws_signing.specs.KeyHolder.{HeldKey, held_key, key_kept}
use Rattle.aws_signing.specs.SigningFaults.{of_signing}
use Rattle.aws_signing.specs.declared.fault.AwsSigningError.{AwsSigningError}
use Rattle.aws_signing.specs.declared.fault.AwsSigningError.TheVariants.{EmptyKeyId, EmptySecret, EmptyRegion, EmptyName, NoMemory}

-- ## A signer

-- who signs, with the key that is kept, and how requests are signed
pub record SigningState : Type 0 where
  pub holder : HeldKey
  pub settings : Settings

-- the fault of an empty text
abbrev pub unless_filled : List ℕ → AwsSigningError → Option AwsSigningError
unless_filled [] fault = Some fault
unless_filled text fault = None

-- the first of the texts that is empty: the key's id, the secret, the region, the service's name
abbrev pub first_empty : Keys → List ℕ → List ℕ → Option AwsSigningError
first_empty credentials region name =
    option_or (unless_filled (access_key_id credentials) EmptyKeyId) (option_or (unless_filled (secret_access_key credentials) EmptySecret)
    (option_or (unless_filled region EmptyRegion) (unless_filled name EmptyName)))

-- no text is empty, or the first that is
abbrev pub TestsTexts : Keys → List ℕ → List ℕ → Result (Unit {0}) AwsSigningError → Type 0
TestsTexts credentials region name (Ok _) = first_empty credentials region name ≡ None
TestsTexts credentials region name (Err fault) = first_empty credentials region name ≡ Some fault

-- a signer of credentials for a region and a service's name, with these settings, where no text is empty; else the first that is, or memory ran out
abbrev pub MakesSigner : Keys → List ℕ → List ℕ → Settings → Result SigningState AwsSigningError → Type 0
MakesSigner credentials region name settings (Ok signer) =
    (first_empty credentials region name ≡ None) × (signer ≡ record { holder = held_key credentials region name; settings = settings })
MakesSigner credentials region name settings (Err fault) = (first_empty credentials region name ≡ Some fault) ⊎ (fault ≡ NoMemory)

-- the signer once it signed at a moment
abbrev pub signer_kept : SigningState → Instant → SigningState
signer_kept by at = record by { holder = key_kept by.holder at }

-- ## What is signed

-- the settings as they are, or where the signature goes into a query that is good for so many seconds
abbrev pub in_form : Settings → Option ℕ → Settings
in_form settings None = settings
in_form settings (Some seconds) = record settings { signature_location = QueryParams; expires_in = Some seconds }

-- the text of a payload: the one that is given, or else the digest of the body
abbrev pub given_payload : Option (List ℕ) → List ℕ → List ℕ
given_payload payload body = unwrap_or payload (encode_lower (sha256 body))

-- the case of a request of this method and with these headers, and this text for its payload, that a signer signs at a moment, in query form for so many
-- seconds, if these are given, for what its target spells
abbrev pub signer_case : SigningState → List ℕ → List Pair → List ℕ → Option ℕ → Instant → Target → Case
signer_case by method headers payload seconds at target = record {
  method = method;
  target = target;
  headers = headers;
  payload = payload;
  settings = in_form by.settings seconds;
  key_id = by.holder.key_id;
  token = by.holder.token;
  signer = by.holder.kept.signer;
  at = at;
}

-- the case of a request in the form of the signer's settings, with this text for its payload, if one is given
abbrev pub settings_case : SigningState → HttpRequest → Option (List ℕ) → Instant → Target → Case
settings_case by request payload at = signer_case by (string_bytes request.method) request.headers (given_payload payload request.body) None at

-- ## What signing promises

-- the request of a case and its signature, for what the text of its target spells; no test fails
pub record IsSignedRequestBy (case : Target → Case) (at : Instant) (text : List ℕ) (new : HttpRequest) (signature : List ℕ) : Type 0 where
  pub target : Target
  pub spelled : SpellsParts text target
  pub in_years : unsigned_chunk_at at ≡ None
  pub passed : unsigned_target case (Some target) ≡ None
  pub headers : new.headers ≡ signed_headers (case target)
  pub text_is : string_bytes new.target ≡ signed_target (case target) text
  pub signature_is : signature ≡ signature_of (case target)

-- the moment lies outside the years 0 to 9999; or it doesn't, and a test of the target of the text, or of what it makes of the case, fails with this
-- error, and no test before it, or memory ran out
abbrev pub RefusesBy : (Target → Case) → Instant → List ℕ → SigningError → Type 0
RefusesBy case at text error =
    (unsigned_chunk_at at ≡ Some error) ⊎ ((unsigned_chunk_at at ≡ None) × RefusesTarget text case error)

-- the request is signed by a case, for what the text of its target spells, or why it isn't
abbrev pub SignsBy : (Target → Case) → Instant → List ℕ → HttpRequest → Result (String Global) SigningError → Type 0
SignsBy case at text new (Ok signature) = IsSignedRequestBy case at text new (string_bytes signature)
SignsBy case at text new (Err error) = RefusesBy case at text error

-- the request is signed by a case, or why it isn't, as a fault of this crate
abbrev pub SignsRequestBy : (Target → Case) → Instant → List ℕ → HttpRequest → Result (String Global) AwsSigningError → Type 0
SignsRequestBy case at text new (Ok signature) = IsSignedRequestBy case at text new (string_bytes signature)
SignsRequestBy case at text new (Err fault) = (error : SigningError) × RefusesBy case at text error × (fault ≡ of_signing error)

-- ## On the way

-- the case of a request that is signed by parameters, with this text for its payload, if one is given, for what its target spells
abbrev pub text_case : HttpRequest → Option (List ℕ) → SigningParams → Target → Case
text_case request payload (V4 params) target = record {
  method = string_bytes request.method;
  target = target;
  headers = request.headers;
  payload = given_payload payload request.body;
  settings = settings_of (v4_settings params);
  key_id = key_id_of (v4_identity params);
  token = token_of (v4_identity params);
  signer = signer_of params;
  at = v4_time params;
}
