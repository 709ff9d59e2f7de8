-- A service's door: the tests of a signed request in their order, and what is said of one that is admitted.
use Rattle.std.specs.Prelude.{◌≡◌, ◌≢◌, ◌⊎◌, ℕ, List, [], ◌∷◌, IsSome, Option, Some, None, Result, Ok, Err, ℤ, String, string_bytes}
use Rattle.std.specs.declared.alloc.Global.{Global}
use Rattle.http_uri.specs.declared.uri.Uri.{Uri}
use Rattle.smithy_core.specs.Moment.{Instant}
use Rattle.smithy_core.specs.declared.request.HttpRequest.{HttpRequest}
use Rattle.smithy_http.specs.QueryWriter.{SpellsNoTarget, SpellsTarget}
use Rattle.smithy_http.specs.Target.{target_of}
use Rattle.eventstream.specs.Key.{Signer}
use Rattle.sigv4.specs.Query.{Pair, decoded}
use Rattle.sigv4.specs.Settings.{Settings, settings_of}
use Rattle.request_check.specs.Recomputed.{carried_names, recomputed, unfit_sent}
use Rattle.request_check.specs.Sealed.{SealParts}
use Rattle.request_door.specs.DoorCarried.{CarriesAt, DoorTexts, IsInForm, MeetsCarried, MeetsDoorForm, ReadsCarried, form_tests, tests_of, texts_carried}
use Rattle.request_door.specs.DoorNames.{MeetsName, name_tests}
use Rattle.request_door.specs.DoorOrder.{IsFirstMet, NoneMet}
use Rattle.request_door.specs.DoorPayloads.{IsOtherPayload, MeetsPayload, payload_tests, shown_form, shown_payload, signed_payload}
use Rattle.request_door.specs.DoorSignature.{seal_signature}
use Rattle.request_door.specs.DoorTerms.{DoorTerms, MeetsTerm, MeetsTime, ReadsDoorTerms, TextsState, door_seal, good_until, term_tests, time_tests}
use Rattle.request_door.specs.declared.admitted.Admitted.{Admitted}
use Rattle.request_door.specs.declared.carried.Carried.{Carried}
use Rattle.request_door.specs.declared.door.Asked.{Asked}
use Rattle.request_door.specs.declared.fault.DoorFault.{DoorFault}
use Rattle.request_door.specs.declared.fault.DoorFault.TheVariants.{InvalidTarget, InvalidHeader, UnknownKey, OtherPayload, Mismatch, NoMemory}
use Rattle.request_door.specs.declared.limits.Limits.{Limits}
use Rattle.request_door.specs.declared.payload.DoorPayload.{DoorPayload}
use Rattle.request_door.specs.declared.terms.Terms.{Terms}

-- what is asked: the request that came, its body, the settings, the region and the service's name, the secret of each key's id, the moment and the limits
pub record DoorInput : Type 0 where
  pub request : HttpRequest
  pub body : List ℕ
  pub settings : Settings
  pub region : List ℕ
  pub name : List ℕ
  pub secrets : List ℕ → Option (List ℕ)
  pub now : Instant
  pub limits : Limits

-- what is asked, of what is handed to the door and the secret of each key's id
abbrev pub door_input : (List ℕ → Option (List ℕ)) → Asked → DoorInput
door_input secrets asked = record {
  request = asked.request.now;
  body = asked.body.now;
  settings = settings_of asked.settings.now;
  region = asked.region.now;
  name = asked.name.now;
  secrets = secrets;
  now = asked.now;
  limits = asked.limits.now;
}

-- what is read of a request: its target, the texts of its signature, what these state, the form of its payload, and the secret of its key
pub record DoorReading : Type 0 where
  pub uri : Uri
  pub texts : DoorTexts
  pub terms : DoorTerms
  pub form : DoorPayload
  pub secret : List ℕ

-- the payload's text that was signed
abbrev pub door_payload : DoorInput → DoorReading → List ℕ
door_payload asked reading = signed_payload (shown_payload asked.request.headers) reading.form asked.body

-- the signature of the request, computed again
abbrev pub door_signature : DoorInput → DoorReading → List ℕ
door_signature asked reading =
    recomputed (string_bytes asked.request.method) (target_of reading.uri) asked.request.headers asked.settings (door_payload asked reading)
    (record { secret = reading.secret; region = asked.region; name = asked.name }) (door_seal reading.texts reading.terms)

-- ---- what the tests leave, one group after another

-- the target is accepted, and headers and host are fit for signing
pub record HasTarget (asked : DoorInput) (reading : DoorReading) : Type 0 where
  pub spelled : SpellsTarget (string_bytes asked.request.target) reading.uri
  pub fit : unfit_sent (target_of reading.uri) asked.request.headers ≡ None

-- and the signature is carried in one form
pub record HasForm (asked : DoorInput) (reading : DoorReading) : Type 0 where
  pub target : HasTarget asked reading
  pub untouched : NoneMet (MeetsDoorForm asked.request.headers (decoded (target_of reading.uri))) form_tests
  pub in_form : IsInForm asked.request.headers (decoded (target_of reading.uri)) reading.texts.place

-- and its texts are those
pub record HasCarriedTexts (asked : DoorInput) (reading : DoorReading) : Type 0 where
  pub form : HasForm asked reading
  pub whole : NoneMet (MeetsCarried reading.texts.place asked.request.headers (decoded (target_of reading.uri))) (tests_of reading.texts.place)
  pub carried : CarriesAt reading.texts.place asked.request.headers (decoded (target_of reading.uri)) reading.texts

-- and they state these terms
pub record HasStated (asked : DoorInput) (reading : DoorReading) : Type 0 where
  pub texts : HasCarriedTexts asked reading
  pub good : NoneMet (MeetsTerm asked.region asked.name asked.limits reading.texts) term_tests
  pub stated : TextsState asked.region asked.name reading.texts reading.terms

-- and the names are in order
pub record HasNames (asked : DoorInput) (reading : DoorReading) : Type 0 where
  pub stated : HasStated asked reading
  pub named : NoneMet (MeetsName reading.texts.place asked.settings.session_token_mode asked.limits asked.request.headers (carried_names reading.texts.names)) name_tests

-- and the moment lies in the request's time
pub record IsTimely (asked : DoorInput) (reading : DoorReading) : Type 0 where
  pub names : HasNames asked reading
  pub timed : NoneMet (MeetsTime reading.texts.place asked.limits asked.now reading.terms) time_tests

-- and the payload has this form
pub record HasPayload (asked : DoorInput) (reading : DoorReading) : Type 0 where
  pub timely : IsTimely asked reading
  pub shown : NoneMet (MeetsPayload reading.texts.place asked.settings.payload_checksum_kind asked.request.headers) payload_tests
  pub form : shown_form reading.texts.place asked.settings.payload_checksum_kind (shown_payload asked.request.headers) ≡ Some reading.form

-- and the key has this secret
pub record HasKey (asked : DoorInput) (reading : DoorReading) : Type 0 where
  pub payload : HasPayload asked reading
  pub known : asked.secrets reading.terms.key_id ≡ Some reading.secret

-- the last tests, under the key: a digest that is shown isn't the body's, or the signature isn't that of the request
abbrev pub last_tests : List DoorFault
last_tests = OtherPayload ∷ Mismatch ∷ []

-- a test under the key
abbrev pub MeetsLast : DoorInput → DoorReading → DoorFault → Type 0
MeetsLast asked reading OtherPayload = IsOtherPayload (shown_payload asked.request.headers) reading.form asked.body
MeetsLast asked reading Mismatch = reading.texts.signature ≢ door_signature asked reading
MeetsLast asked reading _ = ⊥

-- ---- the groups of tests in their order, each with what those before it left

-- 1: the target isn't accepted
abbrev pub RefusesDoorTarget : DoorInput → DoorFault → Type 0
RefusesDoorTarget asked fault = SpellsNoTarget (string_bytes asked.request.target) × (fault ≡ InvalidTarget)

-- 2: a header or the host isn't fit for signing
abbrev pub RefusesHeader : DoorInput → DoorFault → Type 0
RefusesHeader asked fault =
    (uri : Uri) × SpellsTarget (string_bytes asked.request.target) uri × IsSome (unfit_sent (target_of uri) asked.request.headers) × (fault ≡ InvalidHeader)

-- 3: a signature is carried in both forms or in none
abbrev pub RefusesForm : DoorInput → DoorFault → Type 0
RefusesForm asked fault =
    (reading : DoorReading) × HasTarget asked reading × IsFirstMet (MeetsDoorForm asked.request.headers (decoded (target_of reading.uri))) form_tests fault

-- 4: what is carried isn't whole
abbrev pub RefusesCarried : DoorInput → DoorFault → Type 0
RefusesCarried asked fault =
    (reading : DoorReading) × HasForm asked reading
    × IsFirstMet (MeetsCarried reading.texts.place asked.request.headers (decoded (target_of reading.uri))) (tests_of reading.texts.place) fault

-- 5: what it states is outside its form, or another scope
abbrev pub RefusesTerms : DoorInput → DoorFault → Type 0
RefusesTerms asked fault =
    (reading : DoorReading) × HasCarriedTexts asked reading × IsFirstMet (MeetsTerm asked.region asked.name asked.limits reading.texts) term_tests fault

-- 6: the names aren't as they have to be
abbrev pub RefusesNames : DoorInput → DoorFault → Type 0
RefusesNames asked fault =
    (reading : DoorReading) × HasStated asked reading
    × IsFirstMet (MeetsName reading.texts.place asked.settings.session_token_mode asked.limits asked.request.headers (carried_names reading.texts.names)) name_tests fault

-- 7: it is too early, or too late
abbrev pub RefusesTime : DoorInput → DoorFault → Type 0
RefusesTime asked fault =
    (reading : DoorReading) × HasNames asked reading × IsFirstMet (MeetsTime reading.texts.place asked.limits asked.now reading.terms) time_tests fault

-- 8: the payload's header isn't one
abbrev pub RefusesPayload : DoorInput → DoorFault → Type 0
RefusesPayload asked fault =
    (reading : DoorReading) × IsTimely asked reading
    × IsFirstMet (MeetsPayload reading.texts.place asked.settings.payload_checksum_kind asked.request.headers) payload_tests fault

-- 9: the key isn't known
abbrev pub RefusesKey : DoorInput → DoorFault → Type 0
RefusesKey asked fault = (reading : DoorReading) × HasPayload asked reading × (asked.secrets reading.terms.key_id ≡ None) × (fault ≡ UnknownKey)

-- 10: the payload or the signature is another one
abbrev pub RefusesLast : DoorInput → DoorFault → Type 0
RefusesLast asked fault = (reading : DoorReading) × HasKey asked reading × IsFirstMet (MeetsLast asked reading) last_tests fault

-- a test of one of the groups is met, and none before it; this is its fault
abbrev pub RefusesFirst : DoorInput → DoorFault → Type 0
RefusesFirst asked fault =
    RefusesDoorTarget asked fault ⊎ (RefusesHeader asked fault ⊎ (RefusesForm asked fault ⊎ (RefusesCarried asked fault ⊎ (RefusesTerms asked fault
    ⊎ (RefusesNames asked fault ⊎ (RefusesTime asked fault ⊎ (RefusesPayload asked fault ⊎ (RefusesKey asked fault ⊎ RefusesLast asked fault))))))))

-- what is said of a request with these texts, terms, end of its time and form of its payload
pub record AdmitsAs (texts : DoorTexts) (terms : DoorTerms) (ends : ℤ) (form : DoorPayload) (admitted : Admitted) : Type 0 where
  pub key_id : string_bytes admitted.key_id ≡ terms.key_id
  pub place : admitted.place ≡ texts.place
  pub at : admitted.at ≡ terms.at
  pub until : admitted.until ≡ ends
  pub names : string_bytes admitted.names ≡ texts.names
  pub payload : admitted.payload ≡ form
  pub signature : string_bytes admitted.signature ≡ texts.signature

-- no test is met, the signature is the request's own, and this is said
pub record IsAdmitted (asked : DoorInput) (admitted : Admitted) : Type 0 where
  pub reading : DoorReading
  pub key : HasKey asked reading
  pub own : reading.texts.signature ≡ door_signature asked reading
  pub last : NoneMet (MeetsLast asked reading) last_tests
  pub stated : AdmitsAs reading.texts reading.terms (good_until reading.texts.place asked.limits reading.terms) reading.form admitted

-- what is said of a request that no test refuses, and else the fault of the first test that is met, unless memory runs out
abbrev pub AnswersDoor : DoorInput → Result Admitted DoorFault → Type 0
AnswersDoor asked (Ok admitted) = IsAdmitted asked admitted
AnswersDoor asked (Err fault) = RefusesFirst asked fault ⊎ (fault ≡ NoMemory)

-- ---- what the steps of the door promise

-- the target, where it is accepted, and headers and host are fit for signing, or why not
abbrev pub AcceptsTarget : HttpRequest → Result Uri DoorFault → Type 0
AcceptsTarget request (Ok uri) = SpellsTarget (string_bytes request.target) uri × (unfit_sent (target_of uri) request.headers ≡ None)
AcceptsTarget request (Err fault) =
    (SpellsNoTarget (string_bytes request.target) × (fault ≡ InvalidTarget))
    ⊎ (((uri : Uri) × SpellsTarget (string_bytes request.target) uri × IsSome (unfit_sent (target_of uri) request.headers) × (fault ≡ InvalidHeader)) ⊎ (fault ≡ NoMemory))

-- the secret of a known key
abbrev pub FindsSecret : Option (List ℕ) → Result (String Global) DoorFault → Type 0
FindsSecret secret (Ok found) = secret ≡ Some (string_bytes found)
FindsSecret secret (Err fault) = ((secret ≡ None) × (fault ≡ UnknownKey)) ⊎ (fault ≡ NoMemory)

-- the tests under a key, of a request with a seal
abbrev pub TestsLast : HttpRequest → Settings → List ℕ → Signer → DoorPayload → SealParts → Uri → Result (Unit {0}) DoorFault → Type 0
TestsLast request settings body signer form seal uri (Ok _) =
    (IsOtherPayload (shown_payload request.headers) form body → ⊥)
    × (seal.signature ≡ seal_signature request settings (signed_payload (shown_payload request.headers) form body) signer seal uri)
TestsLast request settings body signer form seal uri (Err fault) =
    (IsOtherPayload (shown_payload request.headers) form body × (fault ≡ OtherPayload))
    ⊎ (((IsOtherPayload (shown_payload request.headers) form body → ⊥)
    × (seal.signature ≢ seal_signature request settings (signed_payload (shown_payload request.headers) form body) signer seal uri) × (fault ≡ Mismatch))
    ⊎ (fault ≡ NoMemory))

-- the request's target is accepted, and these are its pairs
pub record HasPairs (request : HttpRequest) (uri : Uri) (pairs : List Pair) : Type 0 where
  pub accepted : AcceptsTarget request (Ok uri)
  pub pairs_are : pairs ≡ decoded (target_of uri)

-- the request's target is accepted, and it carries these texts
pub record CarriesTexts (request : HttpRequest) (uri : Uri) (read : Carried) : Type 0 where
  pub accepted : AcceptsTarget request (Ok uri)
  pub reads : ReadsCarried request.headers (decoded (target_of uri)) (Ok read)

-- and they state these terms
pub record CarriesTerms (request : HttpRequest) (uri : Uri) (region name : List ℕ) (limits : Limits) (read : Carried) (stated : Terms) : Type 0 where
  pub texts : CarriesTexts request uri read
  pub states : ReadsDoorTerms region name limits (texts_carried read) (Ok stated)
