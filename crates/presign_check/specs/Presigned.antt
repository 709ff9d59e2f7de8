-- The check of a presigned request: its tests in their order.
use Rattle.std.specs.Prelude.{◌≡◌, ◌≢◌, ◌⊎◌, ℕ, List, codes, IsSome, Option, Some, None, Result, Ok, Err, ℤ, ◌≤ℤ◌, string_bytes}
use Rattle.http_uri.specs.declared.uri.Uri.{Uri}
use Rattle.smithy_core.specs.Moment.{Instant}
use Rattle.smithy_core.specs.TextPairs.{first_value}
use Rattle.smithy_core.specs.declared.request.HttpRequest.{HttpRequest}
use Rattle.smithy_http.specs.QueryWriter.{SpellsNoTarget, SpellsTarget}
use Rattle.smithy_http.specs.Target.{target_of}
use Rattle.eventstream.specs.Key.{Signer}
use Rattle.sigv4.specs.Query.{decoded}
use Rattle.sigv4.specs.Settings.{Settings}
use Rattle.sigv4.specs.declared.error.SigningError.{SigningError}
use Rattle.sigv4.specs.declared.error.SigningError.TheVariants.{InvalidUri}
use Rattle.sigv4.specs.declared.settings.SignatureLocation.TheVariants.{QueryParams}
use Rattle.request_check.specs.Recomputed.{recomputed, unfit_sent}
use Rattle.request_check.specs.Sealed.{SealParts}
use Rattle.presign_check.specs.Parameters.{PresignTexts, StandOnce, all_parts, first_count_fault}
use Rattle.presign_check.specs.Terms.{IsEarly, IsGood, IsLate, IsOutOfForm, IsUnknown, PresignTerms, ParametersState, until_of}
use Rattle.presign_check.specs.declared.fault.PresignFault.{PresignFault}
use Rattle.presign_check.specs.declared.fault.PresignFault.TheVariants.{HeaderForm, Mismatch, NoMemory, Signing}

-- what is asked: the request that was sent, the settings, the text of its payload, the secret with the region and the name, the key's id, and the moment
pub record PresignInput : Type 0 where
  pub request : HttpRequest
  pub settings : Settings
  pub payload : List ℕ
  pub signer : Signer
  pub key_id : List ℕ
  pub now : Instant

-- what a presigned request is read as: its target, the parameters there, and what these state
pub record Reading : Type 0 where
  pub uri : Uri
  pub texts : PresignTexts
  pub terms : PresignTerms

-- ---- what the tests leave, one after another

-- the request's target is accepted, and no header is `authorization`
pub record IsByQuery (request : HttpRequest) (uri : Uri) : Type 0 where
  pub spelled : SpellsTarget (string_bytes request.target) uri
  pub unauthorized : first_value request.headers (codes "authorization") ≡ None

-- and each of the parameters stands once in the target's query
pub record HasParameters (request : HttpRequest) (uri : Uri) (texts : PresignTexts) : Type 0 where
  pub by_query : IsByQuery request uri
  pub once : StandOnce (decoded (target_of uri)) texts

-- and they are in their forms
pub record HasTerms (request : HttpRequest) (signer : Signer) (reading : Reading) : Type 0 where
  pub whole : HasParameters request reading.uri reading.texts
  pub stated : ParametersState signer.region signer.name reading.texts reading.terms

-- the request has such a reading
pub record IsPresigned (request : HttpRequest) (signer : Signer) : Type 0 where
  pub reading : Reading
  pub has : HasTerms request signer reading

-- and the key is the one that is asked for
pub record IsOfKey (asked : PresignInput) (reading : Reading) : Type 0 where
  pub has : HasTerms asked.request asked.signer reading
  pub key : reading.terms.key_id ≡ asked.key_id

-- and the moment lies in the time in which the target is good
pub record IsInTime (asked : PresignInput) (reading : Reading) : Type 0 where
  pub own : IsOfKey asked reading
  pub good : IsGood asked.now reading.terms

-- ---- the tests of the signature

-- the seal of which the parameters are
abbrev pub seal_in : Reading → SealParts
seal_in reading = record {
  place = QueryParams;
  key_id = reading.terms.key_id;
  at = reading.terms.at;
  names = reading.texts.names;
  signature = reading.texts.signature;
  expires = Some reading.terms.seconds;
}

-- the signature of the request, computed again
abbrev pub own_signature : HttpRequest → Settings → List ℕ → Signer → Reading → List ℕ
own_signature request settings payload signer reading =
    recomputed (string_bytes request.method) (target_of reading.uri) request.headers settings payload signer (seal_in reading)

-- the first test of the headers and of the host that fails
abbrev pub unfit_reading : HttpRequest → Reading → Option SigningError
unfit_reading request reading = unfit_sent (target_of reading.uri) request.headers

-- a header or the host isn't fit for signing
abbrev pub IsUnfit : HttpRequest → Reading → PresignFault → Type 0
IsUnfit request reading fault = (error : SigningError) × (unfit_reading request reading ≡ Some error) × (fault ≡ Signing error)

-- the fault holds these two signatures
abbrev pub HoldsBoth : List ℕ → List ℕ → PresignFault → Type 0
HoldsBoth carried_text own_text (Mismatch carried recomputed) = (string_bytes carried ≡ carried_text) × (string_bytes recomputed ≡ own_text)
HoldsBoth carried_text own_text _ = ⊥

-- two signatures are the same, or they aren't, and the fault holds both
abbrev pub ComparesBoth : List ℕ → List ℕ → Result (Unit {0}) PresignFault → Type 0
ComparesBoth carried_text own_text (Ok _) = carried_text ≡ own_text
ComparesBoth carried_text own_text (Err fault) = (carried_text ≢ own_text) × HoldsBoth carried_text own_text fault

-- the request is fit for signing, and has another signature than the one that it carries
pub record IsForged (request : HttpRequest) (settings : Settings) (payload : List ℕ) (signer : Signer) (reading : Reading) (fault : PresignFault) : Type 0 where
  pub fit : unfit_reading request reading ≡ None
  pub differs : reading.texts.signature ≢ own_signature request settings payload signer reading
  pub both : HoldsBoth reading.texts.signature (own_signature request settings payload signer reading) fault

-- the request is fit for signing, and carries its own signature
pub record IsGenuine (request : HttpRequest) (settings : Settings) (payload : List ℕ) (signer : Signer) (reading : Reading) : Type 0 where
  pub fit : unfit_reading request reading ≡ None
  pub same : reading.texts.signature ≡ own_signature request settings payload signer reading

-- the signature of a request is its own, or why it isn't
abbrev pub TestsSignature : HttpRequest → Settings → List ℕ → Signer → Reading → Result (Unit {0}) PresignFault → Type 0
TestsSignature request settings payload signer reading (Ok _) = IsGenuine request settings payload signer reading
TestsSignature request settings payload signer reading (Err fault) =
    IsUnfit request reading fault ⊎ (IsForged request settings payload signer reading fault ⊎ (fault ≡ NoMemory))

-- ---- the tests in their order, each with what those before it left, and with its fault

-- 1: the target isn't accepted
abbrev pub MeetsUnspelled : HttpRequest → PresignFault → Type 0
MeetsUnspelled request fault = SpellsNoTarget (string_bytes request.target) × (fault ≡ Signing InvalidUri)

-- 2: there is an `authorization` header
abbrev pub MeetsHeader : HttpRequest → PresignFault → Type 0
MeetsHeader request fault =
    (uri : Uri) × SpellsTarget (string_bytes request.target) uri × IsSome (first_value request.headers (codes "authorization")) × (fault ≡ HeaderForm)

-- 3: a parameter isn't there, or is there more than once; the first of the six decides
abbrev pub MeetsCount : HttpRequest → PresignFault → Type 0
MeetsCount request fault = (uri : Uri) × IsByQuery request uri × (first_count_fault (decoded (target_of uri)) all_parts ≡ Some fault)

-- 4: a parameter is outside its form; the first in the order of these tests decides
abbrev pub MeetsForm : PresignInput → PresignFault → Type 0
MeetsForm asked fault = (uri : Uri) × (texts : PresignTexts) × HasParameters asked.request uri texts × IsOutOfForm asked.signer.region asked.signer.name texts fault

-- 5: the key is another one
abbrev pub MeetsKey : PresignInput → PresignFault → Type 0
MeetsKey asked fault = (reading : Reading) × HasTerms asked.request asked.signer reading × IsUnknown asked.key_id reading.terms fault

-- 6: the moment comes too early
abbrev pub MeetsEarly : PresignInput → PresignFault → Type 0
MeetsEarly asked fault = (reading : Reading) × IsOfKey asked reading × IsEarly asked.now reading.terms fault

-- 6: or it comes too late
abbrev pub MeetsLate : PresignInput → PresignFault → Type 0
MeetsLate asked fault =
    (reading : Reading) × IsOfKey asked reading × (reading.terms.at.secs ≤ℤ asked.now.secs) × IsLate asked.now reading.terms fault

-- 7: a header or the host isn't fit for signing
abbrev pub MeetsUnfit : PresignInput → PresignFault → Type 0
MeetsUnfit asked fault = (reading : Reading) × IsInTime asked reading × IsUnfit asked.request reading fault

-- 7: or the signature is another one
abbrev pub MeetsForged : PresignInput → PresignFault → Type 0
MeetsForged asked fault =
    (reading : Reading) × IsInTime asked reading × IsForged asked.request asked.settings asked.payload asked.signer reading fault

-- a test is met, and none before it; this is its fault
abbrev pub MeetsFirst : PresignInput → PresignFault → Type 0
MeetsFirst asked fault =
    MeetsUnspelled asked.request fault ⊎ (MeetsHeader asked.request fault ⊎ (MeetsCount asked.request fault ⊎ (MeetsForm asked fault
    ⊎ (MeetsKey asked fault ⊎ (MeetsEarly asked fault ⊎ (MeetsLate asked fault ⊎ (MeetsUnfit asked fault ⊎ MeetsForged asked fault)))))))

-- no test is met, and the target is good until this second
abbrev pub MeetsNone : PresignInput → ℤ → Type 0
MeetsNone asked until =
    (reading : Reading) × IsInTime asked reading × IsGenuine asked.request asked.settings asked.payload asked.signer reading × (until ≡ until_of reading.terms)

-- until when the target of a presigned request is good, where no test is met, and else the fault of the first that is, unless memory runs out
abbrev pub ChecksPresigned : PresignInput → Result ℤ PresignFault → Type 0
ChecksPresigned asked (Ok until) = MeetsNone asked until
ChecksPresigned asked (Err fault) = MeetsFirst asked fault ⊎ (fault ≡ NoMemory)

-- a request's target by query, or the first of its two tests that is met
abbrev pub ReadsQueryForm : HttpRequest → Result Uri PresignFault → Type 0
ReadsQueryForm request (Ok uri) = IsByQuery request uri
ReadsQueryForm request (Err fault) = MeetsUnspelled request fault ⊎ (MeetsHeader request fault ⊎ (fault ≡ NoMemory))
