-- Who signed a request, as the tool prints it.
use Rattle.std.specs.Prelude.{◌≡◌, ℕ, if◌then◌else◌, List, [], ◌∷◌, ◌++◌, codes, Option, unwrap_or, Result, Ok, Err, ℤ, string_bytes}
use Rattle.std.specs.Fmt.{signed_decimal}
use Rattle.std.specs.Global.{Vec}
use Rattle.smithy_core.specs.Civil.{is_in_years}
use Rattle.smithy_core.specs.Format.{formatted}
use Rattle.smithy_core.specs.Moment.{Instant}
use Rattle.smithy_core.specs.Text.{line}
use Rattle.smithy_core.specs.TextPairs.{first_value}
use Rattle.smithy_core.specs.declared.format.Format.TheVariants.{DateTime}
use Rattle.smithy_core.specs.declared.request.HttpRequest.{HttpRequest}
use Rattle.env_config.specs.Sections.{FileText}
use Rattle.sigv4.specs.declared.settings.SignatureLocation.{SignatureLocation}
use Rattle.sigv4.specs.declared.settings.SignatureLocation.TheVariants.{Headers, QueryParams}
use Rattle.sigv4.specs.SecondHasher.{at_second}
use Rattle.request_door.specs.Doors.{AnswersDoor, DoorInput}
use Rattle.request_door.specs.declared.admitted.Admitted.{Admitted}
use Rattle.request_door.specs.declared.fault.DoorFault.{DoorFault}
use Rattle.request_door.specs.declared.fault.DoorFault.TheVariants as door
use Rattle.request_door.specs.declared.limits.Limits.{Limits}
use Rattle.request_door.specs.declared.payload.DoorPayload.{DoorPayload}
use Rattle.request_door.specs.declared.payload.DoorPayload.TheVariants.{Digest, Unsigned, UnsignedChunks, SignedChunks}
use Rattle.awsign_words.specs.Words.{OptionValues}
use Rattle.aws_settings.specs.Choice.{ChosenKey}
use Rattle.awsign_run.specs.Chosen.{SignRefusal, SignsFor, asked_profile, refusal_of, signer_by}
use Rattle.awsign_run.specs.Guess.{url_host}
use Rattle.awsign_run.specs.Signing.{is_s3, usual_settings}
use Rattle.awsign_run.specs.declared.status.Status.TheVariants.{Refused, NoMemory}
use Rattle.awsign_verify.specs.declared.status.VerifyStatus.{VerifyStatus}
use Rattle.awsign_verify.specs.declared.status.VerifyStatus.TheVariants.{Ended, Wrong}

-- ## What a service is asked

-- the limits: fifteen minutes of skew, seven days, a hundred names
abbrev pub verify_limits : Limits
verify_limits = record { skew = 900; expiry = 604800; names = 100 }

-- the keys that are known: the one that options, variables or the profile give
abbrev pub known_secrets : ChosenKey → List ℕ → Option (List ℕ)
known_secrets key key_id = first_value ((key.id, key.secret) ∷ []) key_id

-- the request at a service's door, with this body and at this moment; the service is the signer's, and so is the one key that it knows
abbrev pub verify_input : OptionValues → SignsFor → HttpRequest → List ℕ → Instant → DoorInput
verify_input options signer request body at = record {
  request = request;
  body = body;
  settings = usual_settings (is_s3 options signer.service);
  region = signer.region;
  name = signer.service;
  secrets = known_secrets signer.key;
  now = at;
  limits = verify_limits;
}

-- ## What is printed

-- where a signature stands
abbrev pub place_word : SignatureLocation → List ℕ
place_word Headers = codes "headers"
place_word QueryParams = codes "URL"

-- what was signed of a payload
abbrev pub payload_words : DoorPayload → List ℕ
payload_words Digest = codes "digest"
payload_words Unsigned = codes "unsigned"
payload_words UnsignedChunks = codes "unsigned chunks"
payload_words SignedChunks = codes "signed chunks"

-- a second: its date and time (RFC 3339), or its number outside the years 0 to 9999
unfoldable pub second_text : ℤ → List ℕ
second_text secs = if is_in_years (at_second secs) then formatted DateTime (at_second secs) else signed_decimal secs

-- a line: a name, and its value
abbrev pub named_line : List ℕ → List ℕ → List ℕ
named_line name value = line (name ++ (codes " " ++ value))

-- who signed, for what, and where that stands
unfoldable pub who_lines : SignsFor → Admitted → List ℕ
who_lines signer admitted =
    named_line (codes "key") (string_bytes admitted.key_id) ++ (named_line (codes "region") signer.region
    ++ (named_line (codes "service") signer.service ++ named_line (codes "place") (place_word admitted.place)))

-- when it was signed and until when it is good, the signed headers, and the payload
unfoldable pub what_lines : Admitted → List ℕ
what_lines admitted =
    named_line (codes "signed") (second_text admitted.at.secs) ++ (named_line (codes "until") (second_text admitted.until)
    ++ (named_line (codes "headers") (string_bytes admitted.names) ++ named_line (codes "payload") (payload_words admitted.payload)))

-- what is printed of a request that a service lets in
abbrev pub verified_text : SignsFor → Admitted → List ℕ
verified_text signer admitted = who_lines signer admitted ++ what_lines admitted

-- ## What is found

-- the host of a request: that of its header, or of its target
unfoldable pub request_host : List (List ℕ × List ℕ) → List ℕ → List ℕ
request_host headers target = unwrap_or (first_value headers (codes "host")) (url_host target)

-- how a run ends at a request that a service doesn't let in
abbrev pub door_verify_status : DoorFault → VerifyStatus
door_verify_status door.NoMemory = Ended NoMemory
door_verify_status fault = Wrong fault

-- what is printed of a request that the service of a signer lets in, or the first of its tests that it meets; or memory ran out
abbrev pub Judges : OptionValues → SignsFor → HttpRequest → List ℕ → Instant → Result (Vec ℕ) VerifyStatus → Type 0
Judges options signer request body at (Ok text) =
    (admitted : Admitted) × AnswersDoor (verify_input options signer request body at) (Ok admitted) × (text.items ≡ verified_text signer admitted)
Judges options signer request body at (Err (Wrong fault)) = AnswersDoor (verify_input options signer request body at) (Err fault)
Judges options signer request body at (Err (Ended NoMemory)) = Unit {0}
Judges options signer request body at (Err status) = ⊥

-- the same for the service of who is chosen, or why nobody is
abbrev pub JudgesFor : OptionValues → Result SignsFor SignRefusal → HttpRequest → List ℕ → Instant → Result (Vec ℕ) VerifyStatus → Type 0
JudgesFor options (Ok signer) request body at result = Judges options signer request body at result
JudgesFor options (Err refusal) request body at (Err (Ended (Refused fault))) = refusal_of fault ≡ refusal
JudgesFor options (Err refusal) request body at (Err (Ended NoMemory)) = Unit {0}
JudgesFor options (Err refusal) request body at result = ⊥

-- who is chosen for a request, by options, variables and the texts of profile files
abbrev pub verify_signer : OptionValues → List (List ℕ × List ℕ) → List FileText → HttpRequest → Result SignsFor SignRefusal
verify_signer options env files request =
    signer_by options (request_host request.headers (string_bytes request.target)) env (asked_profile options env) files

-- the same with the texts of profile files, at a moment that `moment` tells of
abbrev pub JudgesBy : (Instant → Type 0) → OptionValues → List (List ℕ × List ℕ) → List FileText → HttpRequest → List ℕ → Result (Vec ℕ) VerifyStatus → Type 0
JudgesBy moment options env files request body result =
    (at : Instant) × moment at × JudgesFor options (verify_signer options env files request) request body at result
