-- The seal that a signed request carries: who signed it, when, which headers, and the signature (AWS Signature Version 4, its
-- `Authorization` header and its query parameters).
use Rattle.std.specs.Prelude.{◌≡◌, ℕ, true, List, ◌++◌, codes, Option, Some, None, option_and_then, string_bytes}
use Rattle.http_uri.specs.Uri.{Spells}
use Rattle.http_uri.specs.declared.uri.Uri.{Uri}
use Rattle.smithy_core.specs.Civil.{stamp}
use Rattle.smithy_core.specs.Moment.{Instant}
use Rattle.smithy_core.specs.TextPairs.{first_value}
use Rattle.smithy_core.specs.declared.request.HttpRequest.{HttpRequest}
use Rattle.job_text.specs.Numbers.{natural_below}
use Rattle.smithy_http.specs.Target.{target_of}
use Rattle.eventstream.specs.Key.{scope}
use Rattle.sigv4.specs.Query.{Pair, decoded}
use Rattle.sigv4.specs.Signature.{is_signature}
use Rattle.request_check.specs.Authorization.{IsAuthorization}
use Rattle.request_check.specs.Stamped.{IsWholeSecond}
use Rattle.sigv4.specs.declared.settings.SignatureLocation.{SignatureLocation}
use Rattle.sigv4.specs.declared.settings.SignatureLocation.TheVariants.{Headers, QueryParams}

-- what a seal states: the key id, the moment, the names of the signed headers with `;` between, the signature, where they stand, and in parameters the expiry
pub record SealParts : Type 0 where
  pub place : SignatureLocation
  pub key_id : List ℕ
  pub at : Instant
  pub names : List ℕ
  pub signature : List ℕ
  pub expires : Option ℕ

-- the key id, a slash, and the scope of the seal's moment, of the region and of the name
abbrev pub sealed_credential : List ℕ → List ℕ → SealParts → List ℕ
sealed_credential region name seal = seal.key_id ++ codes "/" ++ scope seal.at region name

-- the first `authorization` and the first `x-amz-date` of the headers are those of the seal
pub record SealsHeaders (headers : List Pair) (region name : List ℕ) (seal : SealParts) : Type 0 where
  pub moment : IsWholeSecond seal.at
  pub date : first_value headers (codes "x-amz-date") ≡ Some (stamp seal.at)
  pub authorization : List ℕ
  pub first : first_value headers (codes "authorization") ≡ Some authorization
  pub read : IsAuthorization authorization (sealed_credential region name seal) seal.names seal.signature
  pub no_expiry : seal.expires ≡ None

-- the number of seconds that a text spells, where 64 bits hold it
abbrev pub spelled_seconds : List ℕ → Option ℕ
spelled_seconds text = natural_below 18446744073709551616 text

-- for how many seconds a target is good, by the first expiry among its parameters
abbrev pub stated_expiry : List Pair → Option ℕ
stated_expiry pairs = option_and_then spelled_seconds (first_value pairs (codes "X-Amz-Expires"))

-- of each of a signature's parameters the first is that of the seal; the expiry may be absent
pub record SealsParameters (pairs : List Pair) (region name : List ℕ) (seal : SealParts) : Type 0 where
  pub moment : IsWholeSecond seal.at
  pub digits : is_signature seal.signature ≡ true
  pub date : first_value pairs (codes "X-Amz-Date") ≡ Some (stamp seal.at)
  pub credential : first_value pairs (codes "X-Amz-Credential") ≡ Some (sealed_credential region name seal)
  pub names : first_value pairs (codes "X-Amz-SignedHeaders") ≡ Some seal.names
  pub signature : first_value pairs (codes "X-Amz-Signature") ≡ Some seal.signature
  pub expires : stated_expiry pairs ≡ seal.expires

-- the target that the text spells has the seal in its parameters
abbrev pub SealsTarget : List ℕ → List ℕ → List ℕ → SealParts → Type 0
SealsTarget target region name seal = (uri : Uri) × Spells target uri × SealsParameters (decoded (target_of uri)) region name seal

-- the headers have no seal
abbrev pub IsUnsealed : List Pair → List ℕ → List ℕ → Type 0
IsUnsealed headers region name = (seal : SealParts) → SealsHeaders headers region name seal → ⊥

-- headers and a target with the seal at its place: that of the headers, and where these have none, that of the target
abbrev pub IsSealedAt : SignatureLocation → List Pair → List ℕ → List ℕ → List ℕ → SealParts → Type 0
IsSealedAt Headers headers target region name seal = SealsHeaders headers region name seal
IsSealedAt QueryParams headers target region name seal = IsUnsealed headers region name × SealsTarget target region name seal

-- the request carries the seal for the region and the name
abbrev pub IsSealed : HttpRequest → List ℕ → List ℕ → SealParts → Type 0
IsSealed request region name seal = IsSealedAt seal.place request.headers (string_bytes request.target) region name seal

-- the seal of the request, or that it carries none
abbrev pub FindsSeal : HttpRequest → List ℕ → List ℕ → Option SealParts → Type 0
FindsSeal request region name None = (seal : SealParts) → IsSealed request region name seal → ⊥
FindsSeal request region name (Some seal) = IsSealed request region name seal

-- a request carries one seal at most
abbrev pub HasOneSeal : HttpRequest → List ℕ → List ℕ → Type 0
HasOneSeal request region name = (a b : SealParts) → IsSealed request region name a → IsSealed request region name b → a ≡ b
