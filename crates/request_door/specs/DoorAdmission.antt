-- Whatever is signed is let in at a service's door within its time.
use Rattle.std.specs.Prelude.{◌≡◌, ◌⊎◌, ℕ, ◌≤◌, false, List, [], codes, length, Option, Some, None, unwrap_or, Result, Ok, Err, ◌≤ℤ◌, ◌<ℤ◌}
use Rattle.smithy_core.specs.Civil.{stamp}
use Rattle.smithy_core.specs.Moment.{floor_secs}
use Rattle.smithy_core.specs.TextPairs.{named_values}
use Rattle.sigv4.specs.Canonical.{credential, expires_text, joined_names, names}
use Rattle.sigv4.specs.Query.{decoded}
use Rattle.sigv4.specs.Request.{Case}
use Rattle.sigv4.specs.Settings.{Settings}
use Rattle.sigv4.specs.Signed.{signature_of}
use Rattle.sigv4.specs.declared.settings.SessionTokenMode.TheVariants.{Include}
use Rattle.sigv4.specs.declared.settings.SignatureLocation.{SignatureLocation}
use Rattle.sigv4.specs.declared.settings.SignatureLocation.TheVariants.{Headers, QueryParams}
use Rattle.request_check.specs.Recomputation.{IsSentOf, IsSignedAsSent}
use Rattle.request_door.specs.DoorCarried.{DoorTexts, are_several, has_parameters}
use Rattle.request_door.specs.DoorPayloads.{IsOtherPayload, shown_form, shown_payload, signed_payload}
use Rattle.request_door.specs.DoorTerms.{DoorTerms, good_from, good_until}
use Rattle.request_door.specs.Doors.{DoorInput, AdmitsAs}
use Rattle.request_door.specs.declared.admitted.Admitted.{Admitted}
use Rattle.request_door.specs.declared.fault.DoorFault.{DoorFault}
use Rattle.request_door.specs.declared.fault.DoorFault.TheVariants.{NoMemory}
use Rattle.request_door.specs.declared.limits.Limits.{Limits}
use Rattle.request_door.specs.declared.payload.DoorPayload.{DoorPayload}

-- the expiry that is carried: in header form there is none
abbrev pub case_expires : SignatureLocation → Option ℕ → List ℕ
case_expires Headers expires_in = []
case_expires QueryParams expires_in = expires_text expires_in

-- for how many seconds that is
abbrev pub case_seconds : SignatureLocation → Option ℕ → ℕ
case_seconds Headers expires_in = 0
case_seconds QueryParams expires_in = unwrap_or expires_in 0

-- the texts that the signed request of a case carries at a place
abbrev pub case_texts : SignatureLocation → Case → DoorTexts
case_texts place c = record {
  place = place;
  credential = credential c;
  date = stamp c.at;
  expires = case_expires place c.settings.expires_in;
  names = joined_names (names c);
  signature = signature_of c;
}

-- what they state: the case's key id, the second of its moment, and its expiry
abbrev pub case_terms : SignatureLocation → Case → DoorTerms
case_terms place c = record { key_id = c.key_id; at = floor_secs c.at; seconds = case_seconds place c.settings.expires_in }

-- a token that is added after signing goes by its usual name
abbrev pub GoesByUsualName : Settings → Type 0
GoesByUsualName settings = (settings.session_token_mode ≡ Include) ⊎ (settings.session_token_name_override ≡ None)

-- the form is the only one: in header form no parameter of the target is a part of a signature, and in query form there is an expiry within the limit
abbrev pub ShowsOneForm : SignatureLocation → Limits → Case → Type 0
ShowsOneForm Headers limits c = has_parameters (decoded c.target) ≡ false
ShowsOneForm QueryParams limits c = (seconds : ℕ) × (c.settings.expires_in ≡ Some seconds) × (seconds ≤ limits.expiry)

-- what was signed of the payload has this form, and is what the request shows, or what goes without saying; and a digest that is shown is that of the body
pub record ShowsPayload (asked : DoorInput) (c : Case) (form : DoorPayload) : Type 0 where
  pub once : are_several (named_values asked.request.headers (codes "x-amz-content-sha256")) ≡ false
  pub shown : shown_form c.settings.signature_location c.settings.payload_checksum_kind (shown_payload asked.request.headers) ≡ Some form
  pub signed : c.payload ≡ signed_payload (shown_payload asked.request.headers) form asked.body
  pub own : IsOtherPayload (shown_payload asked.request.headers) form asked.body → ⊥

-- the request that came is the signed request of this case, which nothing refuses and whose settings a request can show: it is signed with the settings, for
-- the region and the name of the service, with a key that is known by its secret; its names, its expiry and the moment are within the limits; and its
-- payload has this form, and goes with the body
pub record IsDueAtDoor (asked : DoorInput) (c : Case) (form : DoorPayload) : Type 0 where
  pub settings : c.settings ≡ asked.settings
  pub region : c.signer.region ≡ asked.region
  pub name : c.signer.name ≡ asked.name
  pub known : asked.secrets c.key_id ≡ Some c.signer.secret
  pub signed : IsSignedAsSent c
  pub sent : IsSentOf c asked.request
  pub token : GoesByUsualName c.settings
  pub one_form : ShowsOneForm c.settings.signature_location asked.limits c
  pub few : length (names c) ≤ asked.limits.names
  pub payload : ShowsPayload asked c form
  pub begun : good_from c.settings.signature_location asked.limits (case_terms c.settings.signature_location c) ≤ℤ asked.now.secs
  pub lasts : asked.now.secs <ℤ good_until c.settings.signature_location asked.limits (case_terms c.settings.signature_location c)

-- it is let in, and this case is said, unless memory ran out
abbrev pub IsLetIn : SignatureLocation → Limits → Case → DoorPayload → Result Admitted DoorFault → Type 0
IsLetIn place limits c form (Ok admitted) = AdmitsAs (case_texts place c) (case_terms place c) (good_until place limits (case_terms place c)) form admitted
IsLetIn place limits c form (Err fault) = fault ≡ NoMemory

-- each signed request that is due is let in
abbrev pub LetsSignedIn : DoorInput → Result Admitted DoorFault → Type 0
LetsSignedIn asked result = (c : Case) (form : DoorPayload) → IsDueAtDoor asked c form → IsLetIn c.settings.signature_location asked.limits c form result
