-- The signature of a signed request, computed again, is that of its case.
use Rattle.std.specs.Prelude.{◌≡◌, ℕ, ◌^◌, ◌<◌, false, List, [], ◌∷◌, codes, bytes_eq, IfSome, IsUtf8, Option, Some, None, Result, Ok, Err, string_bytes}
use Rattle.std.specs.List.{AllByRecursion, list_any}
use Rattle.smithy_core.specs.Civil.{IsInYears}
use Rattle.smithy_core.specs.TextPairs.{AreLower, first_value}
use Rattle.smithy_core.specs.declared.request.HttpRequest.{HttpRequest}
use Rattle.eventstream.specs.Key.{Signer}
use Rattle.sigv4.specs.Canonical.{header_payload, token_parameter}
use Rattle.sigv4.specs.Parameters.{SpellsParts}
use Rattle.sigv4.specs.Query.{Pair, decoded}
use Rattle.sigv4.specs.Refusal.{unfit, unfit_signed_target}
use Rattle.sigv4.specs.Request.{Case}
use Rattle.sigv4.specs.Settings.{Settings, default_exclusions}
use Rattle.sigv4.specs.Signed.{signature_of, signed_headers, signed_target}
use Rattle.sigv4.specs.Trim.{trim_all}
use Rattle.sigv4.specs.declared.body.SignableBody.{SignableBody}
use Rattle.sigv4.specs.declared.body.SignableBody.TheVariants.{Precomputed}
use Rattle.sigv4.specs.declared.settings.SignatureLocation.{SignatureLocation}
use Rattle.sigv4.specs.declared.settings.SignatureLocation.TheVariants.{Headers, QueryParams}
use Rattle.request_check.specs.declared.check.CheckRequestFault.{CheckRequestFault}
use Rattle.request_check.specs.declared.check.CheckRequestFault.TheVariants.{NoMemory}
use Rattle.request_check.specs.declared.check.Checked.{Checked}

-- a text that goes into a header is trimmed
abbrev pub IsTrimmed : Option (List ℕ) → Type 0
IsTrimmed text = IfSome text (λ t. trim_all t ≡ t)

-- a digest that is given in place of a body is trimmed
abbrev pub IsTrimmedBody : SignableBody → Type 0
IsTrimmedBody (Precomputed text) = trim_all (string_bytes text) ≡ string_bytes text
IsTrimmedBody _ = Unit {0}

-- the keys of a signature's parameters, the token's among them
abbrev pub parameter_keys : Settings → List (List ℕ)
parameter_keys settings =
    codes "X-Amz-Algorithm" ∷ codes "X-Amz-Credential" ∷ codes "X-Amz-Date" ∷ codes "X-Amz-Expires" ∷ codes "X-Amz-SignedHeaders"
    ∷ codes "X-Amz-Signature" ∷ token_parameter settings ∷ []

-- no pair has one of these keys
abbrev pub HaveNone : List (List ℕ) → List Pair → Type 0
HaveNone keys pairs = AllByRecursion (λ pair. list_any (bytes_eq pair.0) keys ≡ false) pairs

-- the case is of strings, which are UTF-8, and its expiry has 64 bits
pub record IsOfStrings (c : Case) : Type 0 where
  pub key_id : IsUtf8 c.key_id
  pub region : IsUtf8 c.signer.region
  pub name : IsUtf8 c.signer.name
  pub token : IfSome c.token IsUtf8
  pub token_name : IfSome c.settings.session_token_name_override IsUtf8
  pub expiry : IfSome c.settings.expires_in (λ seconds. seconds < 2 ^ 64)

-- what a signature adds is told from what the request has: in header form the texts that go into headers are trimmed, as headers are, and in query
-- form no header is `authorization`, and the target's pairs hold no parameter of a signature
abbrev pub HasFormApart : SignatureLocation → Case → Type 0
HasFormApart Headers c = IsTrimmed c.token × IsTrimmed (header_payload c.settings.payload_checksum_kind c.payload)
HasFormApart QueryParams c = (first_value c.headers (codes "authorization") ≡ None) × HaveNone (parameter_keys c.settings) (decoded c.target)

-- a case that is signed: nothing of it is refused, the usual names aren't signed, and what its signature adds is told apart. The headers of a
-- request have their names in lower case
pub record IsSignedAsSent (c : Case) : Type 0 where
  pub strings : IsOfStrings c
  pub lower : AreLower c.headers
  pub usual : c.settings.excluded_headers ≡ Some default_exclusions
  pub in_years : IsInYears c.at
  pub fit : unfit c ≡ None
  pub fits : unfit_signed_target c ≡ None
  pub apart : HasFormApart c.settings.signature_location c

-- the signed request of a case, whose own target was given by a text
pub record IsSentOf (c : Case) (sent : HttpRequest) : Type 0 where
  pub given : List ℕ
  pub spelled : SpellsParts given c.target
  pub method : string_bytes sent.method ≡ c.method
  pub target : string_bytes sent.target ≡ signed_target c given
  pub headers : sent.headers ≡ signed_headers c

-- both signatures are that of the case, unless memory runs out
abbrev pub IsAlike : Case → Result Checked CheckRequestFault → Type 0
IsAlike c (Ok checked) = (string_bytes checked.carried ≡ signature_of c) × (string_bytes checked.recomputed ≡ signature_of c)
IsAlike c (Err NoMemory) = Unit {0}
IsAlike c (Err fault) = ⊥

-- what is answered of the signed request of a case with these settings, this payload, secret, region and name
abbrev pub Recomputes : HttpRequest → Settings → List ℕ → Signer → Result Checked CheckRequestFault → Type 0
Recomputes sent settings payload signer result =
    (c : Case) → c.settings ≡ settings → c.payload ≡ payload → c.signer ≡ signer → IsSignedAsSent c → IsSentOf c sent → IsAlike c result
