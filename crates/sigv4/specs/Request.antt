-- What is signed, and with what: a request and the parameters of its signature.
use Rattle.std.specs.Prelude.{◌≡◌, ◌⊎◌, ℕ, List, [], Option, Some, None, Result, Ok, Err, string_bytes}
use Rattle.http_uri.specs.declared.uri.Uri.{Uri}
use Rattle.smithy_core.specs.Identity.{access_key_id, secret_access_key, secret_of, session_token}
use Rattle.smithy_core.specs.Moment.{Instant}
use Rattle.smithy_core.specs.declared.identity.Credentials.{Credentials as Keys}
use Rattle.smithy_core.specs.declared.identity.Identity.{Identity}
use Rattle.smithy_core.specs.declared.identity.Identity.TheVariants.{Credentials, Token}
use Rattle.smithy_core.specs.declared.request.HttpRequest.{HttpRequest}
use Rattle.smithy_http.specs.QueryWriter.{SpellsNoTarget, SpellsTarget}
use Rattle.smithy_http.specs.Target.{Target, target_of}
use Rattle.eventstream.specs.Key.{Signer}
use Rattle.sigv4.specs.Body.{IsSameBody, body_bytes, payload_text}
use Rattle.sigv4.specs.Params.{signer_of, v4_identity, v4_settings, v4_time}
use Rattle.sigv4.specs.Settings.{Settings, settings_of}
use Rattle.sigv4.specs.declared.body.SignableBody.{SignableBody}
use Rattle.sigv4.specs.declared.error.SigningError.{SigningError}
use Rattle.sigv4.specs.declared.error.SigningError.TheVariants.{InvalidUri, NoMemory}
use Rattle.sigv4.specs.declared.params.SigningParams.{SigningParams as V4Params}
use Rattle.sigv4.specs.declared.request.SignableRequest.{SignableRequest}
use Rattle.sigv4.specs.declared.settings.SigningSettings.{SigningSettings}
use Rattle.sigv4.specs.declared.signing_params.SigningParams.{SigningParams}
use Rattle.sigv4.specs.declared.signing_params.SigningParams.TheVariants.{V4}

-- a request to be signed, who signs it, when, and under which settings
pub record Case : Type 0 where
  pub method : List ℕ
  pub target : Target
  pub headers : List (List ℕ × List ℕ)
  pub payload : List ℕ
  pub settings : Settings
  pub key_id : List ℕ
  pub token : Option (List ℕ)
  pub signer : Signer
  pub at : Instant

-- the key id of credentials, and nothing of a token
abbrev pub key_id_of : Identity → List ℕ
key_id_of (Credentials credentials) = access_key_id credentials
key_id_of (Token token) = []

-- the session token of credentials that hold one
abbrev pub token_of : Identity → Option (List ℕ)
token_of (Credentials credentials) = session_token credentials
token_of (Token token) = None

-- who signs
abbrev pub identity_of : SigningParams → Identity
identity_of (V4 params) = v4_identity params

-- the URI that was read of the request's target
abbrev pub request_uri : SignableRequest → Uri
request_uri request = request.uri

-- the body of a request
abbrev pub request_body : SignableRequest → SignableBody
request_body request = request.body

-- a request, and the parameters of Version 4
abbrev pub v4_request_case : SignableRequest → V4Params SigningSettings → Case
v4_request_case request params = record {
  method = request.method.now;
  target = target_of request.uri;
  headers = request.headers.now;
  payload = payload_text request.body;
  settings = settings_of (v4_settings params);
  key_id = key_id_of (v4_identity params);
  token = token_of (v4_identity params);
  signer = signer_of params;
  at = v4_time params;
}

-- a request and its parameters
abbrev pub request_case : SignableRequest → SigningParams → Case
request_case request (V4 params) = v4_request_case request params

-- what an identity and its credentials have in common
pub record HasKeys (identity : Identity) (credentials : Keys) : Type 0 where
  pub key_id : access_key_id credentials ≡ key_id_of identity
  pub secret : secret_access_key credentials ≡ secret_of identity
  pub token : session_token credentials ≡ token_of identity

-- the requests have the same method, target and headers, and the same body
pub record IsSameRequest (request copy : SignableRequest) : Type 0 where
  pub method : copy.method.now ≡ request.method.now
  pub target : target_of copy.uri ≡ target_of request.uri
  pub headers : copy.headers.now ≡ request.headers.now
  pub body : IsSameBody request.body copy.body

-- a request of these parts, exactly where the text spells a target
abbrev pub IsMadeOf : List ℕ → List ℕ → List (List ℕ × List ℕ) → SignableBody → Result SignableRequest SigningError → Type 0
IsMadeOf method uri headers body (Ok request) =
    (request.method.now ≡ method) × SpellsTarget uri request.uri × (request.headers.now ≡ headers) × (request.body ≡ body)
IsMadeOf method uri headers body (Err error) = (SpellsNoTarget uri × (error ≡ InvalidUri)) ⊎ (error ≡ NoMemory)

-- a request with this one's method, headers and bytes, exactly where its target's text spells a target
abbrev pub IsMadeOfRequest : HttpRequest → Result SignableRequest SigningError → Type 0
IsMadeOfRequest from (Ok request) =
    (request.method.now ≡ string_bytes from.method) × SpellsTarget (string_bytes from.target) request.uri
    × (request.headers.now ≡ from.headers) × (body_bytes request.body ≡ Some from.body)
IsMadeOfRequest from (Err error) = (SpellsNoTarget (string_bytes from.target) × (error ≡ InvalidUri)) ⊎ (error ≡ NoMemory)
