-- A service's door, for a caller: what is asked of it, and what it answers.
use Rattle.std.specs.Prelude.{◌≡◌, ◌⊎◌, ℕ, ℤ, ◌<◌, Bool, ◌&&◌, List, length, map, Option, Some, None, Result, Ok, Err, string_bytes, if◌then◌else◌}
use Rattle.std.specs.Int.{w64, saturate_signed}
use Rattle.std.specs.List.{list_all}
use Rattle.std.specs.Str.{is_utf8}
use Rattle.smithy_core.specs.TextPairs.{first_place, first_value}
use Rattle.smithy_core.specs.declared.request.HttpRequest.{HttpRequest}
use Rattle.sigv4.specs.declared.settings.SignatureLocation.{SignatureLocation}
use Rattle.sigv4.specs.declared.settings.SignatureLocation.TheVariants.{Headers, QueryParams}
use Rattle.presign_check.specs.declared.part.PresignPart.{PresignPart}
use Rattle.presign_check.specs.declared.part.PresignPart.TheVariants.{Algorithm, Credential, Date, Expires, SignedHeaders, Signature}
use Rattle.request_door.specs.Doors.{DoorInput, IsAdmitted, RefusesFirst}
use Rattle.request_door.specs.declared.admitted.Admitted.{Admitted}
use Rattle.request_door.specs.declared.fault.DoorFault.{DoorFault}
use Rattle.request_door.specs.declared.fault.DoorFault.TheVariants.{InvalidTarget, InvalidHeader, BothForms, NoForm, Missing, Repeated, OtherAlgorithm, Malformed, BadDate, BadCredential, OtherService, OtherRegion, OtherDay, BadExpiry, LongExpiry, TooManyNames, BadNames, AbsentHeader, UnsignedHost, UnsignedHeader, TooEarly, TooLate, RepeatedPayload, BadPayload, UnknownKey, OtherPayload, Mismatch, NoMemory}
use Rattle.request_door.specs.declared.payload.DoorPayload.{DoorPayload}
use Rattle.request_door.specs.declared.payload.DoorPayload.TheVariants.{Digest, Unsigned, UnsignedChunks, SignedChunks}
use Rattle.firuvaik_c.specs.Answers.{LendsSigned, fits}
use Rattle.firuvaik_c.specs.Asked.{has_flag, is_text_field, lent_header, moment_at, service_settings, unless_utf8}
use Rattle.firuvaik_c.specs.Faults.{bad_target, fault_numbered, no_memory, unknown_flags}
use Rattle.firuvaik_c.specs.declared.answer.Answer.{Answer}
use Rattle.firuvaik_c.specs.declared.door.Admission.{Admission}
use Rattle.firuvaik_c.specs.declared.door.Entry.{Entry}
use Rattle.firuvaik_c.specs.declared.fault.Fault.{Fault}
use Rattle.firuvaik_c.specs.declared.lent.Key.{Key}
use Rattle.firuvaik_c.specs.declared.lent.Request.{Request}
use Rattle.firuvaik_c.specs.declared.lent.Service.{Service}

-- ---- what is asked

-- the flags that a service doesn't have: all but 2, 4, 8 and 16
abbrev pub other_flags : ℕ
other_flags = 4294967265

-- id and secret of a key
abbrev pub key_pair : Key → List ℕ × List ℕ
key_pair key = (key.id.now, key.secret.now)

-- id and secret are UTF-8
abbrev pub is_text_key : Key → Bool
is_text_key key = is_utf8 key.id.now && is_utf8 key.secret.now

-- method, target and headers are UTF-8
abbrev pub is_text_request : Request → Bool
is_text_request request = is_utf8 request.method.now && (is_utf8 request.target.now && list_all is_text_field request.headers.now)

-- all texts of what is asked are UTF-8
abbrev pub are_door_texts : Service → Request → Bool
are_door_texts service request =
    is_utf8 service.region.now && (is_utf8 service.name.now && (is_text_request request && list_all is_text_key service.keys.now))

-- why a service isn't asked: a flag that it doesn't have, or a text that isn't one
abbrev pub unasked : Service → Request → Option Fault
unasked service request = if has_flag service.flags other_flags then Some unknown_flags else unless_utf8 (are_door_texts service request)

-- a request with the lent method, target and headers
pub record IsLentRequest (lent : Request) (sent : HttpRequest) : Type 0 where
  pub method : string_bytes sent.method ≡ lent.method.now
  pub target : string_bytes sent.target ≡ lent.target.now
  pub headers : sent.headers ≡ map lent_header lent.headers.now

-- what is asked of a service at a second, of a request with this body: the service has its own limits, and takes a hundred signed headers
abbrev pub service_input : Service → HttpRequest → List ℕ → ℤ → DoorInput
service_input service sent body seconds = record {
  request = sent;
  body = body;
  settings = service_settings service.flags;
  region = service.region.now;
  name = service.name.now;
  secrets = first_value (map key_pair service.keys.now);
  now = moment_at seconds;
  limits = record { skew = service.skew; expiry = service.expiry; names = 100 };
}

-- ---- what is answered

-- the number of a part of a signature, in the order in which they stand in a target
abbrev pub part_number : PresignPart → ℕ
part_number Algorithm = 1
part_number Credential = 2
part_number Date = 3
part_number Expires = 4
part_number SignedHeaders = 5
part_number Signature = 6

-- the number of a refusal; that of a part has the part's number as its place
abbrev pub door_fault : DoorFault → Fault
door_fault InvalidTarget = bad_target
door_fault InvalidHeader = fault_numbered 60 0
door_fault BothForms = fault_numbered 61 0
door_fault NoForm = fault_numbered 62 0
door_fault (Missing part) = fault_numbered 63 (part_number part)
door_fault (Repeated part) = fault_numbered 64 (part_number part)
door_fault OtherAlgorithm = fault_numbered 65 0
door_fault Malformed = fault_numbered 66 0
door_fault BadDate = fault_numbered 67 0
door_fault BadCredential = fault_numbered 68 0
door_fault OtherService = fault_numbered 69 0
door_fault OtherRegion = fault_numbered 70 0
door_fault OtherDay = fault_numbered 71 0
door_fault BadExpiry = fault_numbered 72 0
door_fault LongExpiry = fault_numbered 73 0
door_fault TooManyNames = fault_numbered 74 0
door_fault BadNames = fault_numbered 75 0
door_fault AbsentHeader = fault_numbered 76 0
door_fault UnsignedHost = fault_numbered 77 0
door_fault UnsignedHeader = fault_numbered 78 0
door_fault TooEarly = fault_numbered 79 0
door_fault TooLate = fault_numbered 80 0
door_fault RepeatedPayload = fault_numbered 81 0
door_fault BadPayload = fault_numbered 82 0
door_fault UnknownKey = fault_numbered 83 0
door_fault OtherPayload = fault_numbered 84 0
door_fault Mismatch = fault_numbered 85 0
door_fault NoMemory = no_memory

-- where a signature stands: in headers, or in the query
abbrev pub place_number : SignatureLocation → ℕ
place_number Headers = 0
place_number QueryParams = 1

-- what was signed of a payload: its digest; nothing of it; nothing of its chunks; or each chunk after the one before it
abbrev pub payload_number : DoorPayload → ℕ
payload_number Digest = 0
payload_number Unsigned = 1
payload_number UnsignedChunks = 2
payload_number SignedChunks = 3

-- an entry describes an admitted request: its key by the index of the first with that id, and an end of its time beyond 64 bits by the nearest number
pub record DescribesEntry (keys : List Key) (admitted : Admitted) (entry : Entry) : Type 0 where
  pub key : entry.admission.key ≡ first_place (map key_pair keys) (string_bytes admitted.key_id)
  pub at : entry.admission.at ≡ admitted.at.secs
  pub until : entry.admission.until ≡ saturate_signed w64 admitted.until
  pub place : entry.admission.place ≡ place_number admitted.place
  pub payload : entry.admission.payload ≡ payload_number admitted.payload
  pub names : entry.made.text.items ≡ string_bytes admitted.names
  pub signature : entry.made.signature ≡ string_bytes admitted.signature

-- a request is let in, by one of the keys, and the entry describes it
pub record LetsIn (asked : DoorInput) (keys : List Key) (entry : Entry) : Type 0 where
  pub who : Admitted
  pub admitted : IsAdmitted asked who
  pub describes : DescribesEntry keys who entry
  pub known : entry.admission.key < length keys

-- it is let in, or the first test that is met has this number, or memory ran out
abbrev pub AnswersEntry : DoorInput → List Key → Result Entry Fault → Type 0
AnswersEntry asked keys (Ok entry) = LetsIn asked keys entry
AnswersEntry asked keys (Err fault) = ((met : DoorFault) × RefusesFirst asked met × (fault ≡ door_fault met)) ⊎ (fault ≡ no_memory)

-- a request is let in as a service has it, or the first reason against it is answered, or memory ran out
abbrev pub AdmitsLent : Service → Request → ℤ → Result Entry Fault → Type 0
AdmitsLent service request seconds (Ok entry) =
    (unasked service request ≡ None)
    × ((sent : HttpRequest) × IsLentRequest request sent × LetsIn (service_input service sent request.body.now seconds) service.keys.now entry)
AdmitsLent service request seconds (Err fault) =
    (unasked service request ≡ Some fault)
    ⊎ ((unasked service request ≡ None) × ((sent : HttpRequest) × IsLentRequest request sent
    × ((met : DoorFault) × RefusesFirst (service_input service sent request.body.now seconds) met × (fault ≡ door_fault met))))
    ⊎ (fault ≡ no_memory)

-- what describes the request is written where the names of the signed headers fit, or a fault is answered and nothing is written
abbrev pub LendsEntry : Result Entry Fault → Admission → Admission → List ℕ → List ℕ → List ℕ → List ℕ → Answer → Type 0
LendsEntry (Ok entry) described described_after code code_after old new answer =
    LendsSigned (Ok entry.made) code code_after old new answer × (described_after ≡ (if fits entry.made.text.items old then entry.admission else described))
LendsEntry (Err fault) described described_after code code_after old new answer = LendsSigned (Err fault) code code_after old new answer × (described_after ≡ described)
