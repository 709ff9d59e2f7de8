-- What a run of the program promises that checks presigned URLs.
use Rattle.std.specs.Prelude.{◌≡◌, ℕ, ◌≤◌, ◌⊎◌, nat_lt, if◌then◌else◌, List, [], ◌∷◌, ◌++◌, length, codes, string_bytes, Option, Some, None, Result, Ok, Err, ℤ}
use Rattle.std.specs.Fmt.{signed_decimal}
use Rattle.sha2.specs.Sha256.{sha256}
use Rattle.hex.specs.Hex.{encode_lower}
use Rattle.smithy_core.specs.Moment.{Instant}
use Rattle.smithy_core.specs.Outside.{Gains}
use Rattle.smithy_core.specs.Text.{line}
use Rattle.smithy_core.specs.declared.request.HttpRequest.{HttpRequest}
use Rattle.sigv4.specs.Settings.{Settings, default_settings}
use Rattle.sigv4.specs.declared.settings.SignatureLocation.TheVariants.{QueryParams}
use Rattle.env_config.specs.Files.{Place}
use Rattle.env_config.specs.Loading.{selected_profile}
use Rattle.env_config.specs.Sections.{FileText}
use Rattle.job_text.specs.RequestLines.{RequestParts, request_job}
use Rattle.presign_check.specs.Presigned.{ChecksPresigned, MeetsNone, PresignInput}
use Rattle.presign_check.specs.declared.fault.PresignFault.{PresignFault}
use Rattle.signed_stream.specs.Plan.{FilesRead, GoesAsPlanned, loaded, most_input, unreadable, writes}
use Rattle.signed_stream.specs.RequestWords.{RequestWanted}
use Rattle.signed_stream.specs.Running.{Completes, CountsReads, CountsWrites, KeepsDisk, SinkChange}
use Rattle.signed_stream.specs.Settings.{Selected, settings}
use Rattle.signed_stream.specs.Sources.{selection, source_places}
use Rattle.signed_stream.specs.Status.{Ending, bad_job, bad_words, could_not_read_file, done, job_too_large, no_memory, output_fault, read_fault}
use Rattle.presigned_program.specs.PresignSaying.{SaysPresigned}
use Rattle.presigned_program.specs.PresignStatus.{PresignEnding, ends, fails, fault_ending}

-- ## What is checked

-- the usual settings, in query form
abbrev pub presign_settings : Settings
presign_settings = record default_settings { signature_location = QueryParams }

-- the request is the one that was read
pub record IsRequestOf (read : RequestParts) (request : HttpRequest) : Type 0 where
  pub method : string_bytes request.method ≡ read.method
  pub target : string_bytes request.target ≡ read.target
  pub headers : request.headers ≡ read.headers
  pub body : request.body ≡ read.body

-- the request is checked at a moment under what is selected: its signature is over the digest of its body
abbrev pub presign_asked : List ℕ → Selected → HttpRequest → Instant → PresignInput
presign_asked name selected request now = record {
  request = request;
  settings = presign_settings;
  payload = encode_lower (sha256 request.body);
  signer = record { secret = selected.secret; region = selected.region; name = name };
  key_id = selected.key_id;
  now = now;
}

-- the moment of a check, and what it found: the second until which the request is good, or the first test that it meets
pub record Check : Type 0 where
  pub now : Instant
  pub found : Result ℤ PresignFault

-- what I/O supplied in one call: what the files give, and the check, where it came to one
pub record PresignSupplied : Type 0 where
  pub files : FilesRead
  pub check : Option Check

-- what was read is checked at this moment under what is selected, and this is found
abbrev pub ChecksSelected : RequestWanted → RequestParts → Selected → Check → Type 0
ChecksSelected wanted read selected check =
    (request : HttpRequest) × IsRequestOf read request × ChecksPresigned (presign_asked wanted.name selected request check.now) check.found

-- it comes to a check only where all that it needs is selected
abbrev pub ChecksOnce : RequestWanted → RequestParts → Result Selected Ending → Option Check → Type 0
ChecksOnce wanted read outcome None = Unit {0}
ChecksOnce wanted read (Ok selected) (Some check) = ChecksSelected wanted read selected check
ChecksOnce wanted read (Err end) (Some check) = ⊥

-- what the files gave, and the check; `gave` says what the disk gave
abbrev pub GavePresigned : (List Place → FilesRead → Type 0) → List (List ℕ × List ℕ) → RequestWanted → Result RequestParts ℕ → PresignSupplied → Type 0
GavePresigned gave env wanted (Ok read) given =
    gave (source_places wanted.profile.files read.texts) given.files × ChecksOnce wanted read (selection env wanted.profile.service_id given.files) given.check
GavePresigned gave env wanted (Err place) given = given.check ≡ None

-- the moment is the one that the words name, for which the clock isn't asked, or the only one that was taken of the clock; `clock` says what the clock gave
abbrev pub TakesOne : (List Instant → Type 0) → Option Instant → Instant → Type 0
TakesOne clock None now = clock (now ∷ [])
TakesOne clock (Some at) now = (now ≡ at) × clock []

-- so is that of the check; where it doesn't come to one the clock isn't asked
abbrev pub TakesMomentOfCheck : (List Instant → Type 0) → Option Instant → Option Check → Type 0
TakesMomentOfCheck clock at None = clock []
TakesMomentOfCheck clock at (Some check) = TakesOne clock at check.now

-- ## How it is to end

-- until when a URL is good
unfoldable pub valid_until : ℤ → List ℕ
valid_until until = line (codes "valid until " ++ signed_decimal until)

-- to print until when the request is good, or to end with the test that it meets
abbrev pub found_plan : Result ℤ PresignFault → Result (List ℕ) PresignEnding
found_plan (Ok until) = Ok (valid_until until)
found_plan (Err fault) = Err (fault_ending fault)

-- as the check found; it didn't come to one where memory ran out before
abbrev pub plan_of_check : Option Check → Result (List ℕ) PresignEnding
plan_of_check None = Err (ends no_memory)
plan_of_check (Some check) = found_plan check.found

-- with what is selected
abbrev pub selected_check_plan : Result Selected Ending → Option Check → Result (List ℕ) PresignEnding
selected_check_plan (Ok selected) check = plan_of_check check
selected_check_plan (Err end) check = Err (ends end)

-- with what was read, under these variables
abbrev pub presign_plan : List (List ℕ × List ℕ) → RequestWanted → PresignSupplied → Result RequestParts ℕ → Result (List ℕ) PresignEnding
presign_plan env wanted given (Ok read) = selected_check_plan (selection env wanted.profile.service_id given.files) given.check
presign_plan env wanted given (Err place) = Err (ends (bad_job place))

-- with an input of these bytes
unfoldable pub input_check_plan : List (List ℕ × List ℕ) → RequestWanted → List ℕ → PresignSupplied → Result (List ℕ) PresignEnding
input_check_plan env wanted bytes given = if nat_lt most_input (length bytes) then Err (ends job_too_large) else presign_plan env wanted given (request_job bytes)

-- the text is printed, or it ends so and nothing is; an I/O fault or want of memory may come in between
abbrev pub GoesPresigned : Result (List ℕ) PresignEnding → PresignEnding → Option (List ℕ) → Option (List ℕ) → Type 0
GoesPresigned (Ok text) (ends end) before now = GoesAsPlanned (writes text done) end before now
GoesPresigned (Ok text) (fails fault) before now = ⊥
GoesPresigned (Err end) answer before now = ((answer ≡ end) ⊎ ((answer ≡ ends read_fault) ⊎ (answer ≡ ends no_memory))) × (now ≡ before)

-- ## The run

-- the ends once region and key are there
abbrev pub IsAfterSelection : PresignEnding → Type 0
IsAfterSelection (ends done) = Unit {0}
IsAfterSelection (ends output_fault) = Unit {0}
IsAfterSelection (ends no_memory) = Unit {0}
IsAfterSelection (ends end) = ⊥
IsAfterSelection (fails fault) = Unit {0}

-- the ends once a job was read
abbrev pub IsAfterRequest : PresignEnding → Type 0
IsAfterRequest (ends (bad_words place)) = ⊥
IsAfterRequest (ends job_too_large) = ⊥
IsAfterRequest (ends (bad_job place)) = ⊥
IsAfterRequest (ends read_fault) = ⊥
IsAfterRequest end = Unit {0}

-- the ends once the input was read
abbrev pub IsAfterRead : PresignEnding → Type 0
IsAfterRead (ends (bad_words place)) = ⊥
IsAfterRead (ends job_too_large) = ⊥
IsAfterRead (ends read_fault) = ⊥
IsAfterRead end = Unit {0}

-- the ends of words that aren't bad
abbrev pub IsOfWords : PresignEnding → Type 0
IsOfWords (ends (bad_words place)) = ⊥
IsOfWords end = Unit {0}

-- the ends without a check: the clock wasn't asked
abbrev pub NeedsCheck : PresignEnding → Option Check → Type 0
NeedsCheck (fails fault) check = Unit {0}
NeedsCheck (ends done) check = Unit {0}
NeedsCheck (ends output_fault) check = Unit {0}
NeedsCheck (ends no_memory) check = Unit {0}
NeedsCheck (ends end) check = check ≡ None

-- the ends that leave the output as it was: all but that it is done, failed or memory ran out
abbrev pub KeepsPresigned : PresignEnding → Option (List ℕ) → Option (List ℕ) → Type 0
KeepsPresigned (ends done) before now = Unit {0}
KeepsPresigned (ends output_fault) before now = Unit {0}
KeepsPresigned (ends no_memory) before now = Unit {0}
KeepsPresigned end before now = now ≡ before

-- the ends that come before the disk is asked
abbrev pub KeepsDiskAt : {D : Type 0} → PresignEnding → D → D → Type 0
KeepsDiskAt (ends end) before now = KeepsDisk end before now
KeepsDiskAt (fails fault) before now = Unit {0}

-- the count of the input's faults: it rose where the input failed, and else stayed
abbrev pub CountsInput : PresignEnding → ℕ → ℕ → Type 0
CountsInput (ends end) before now = CountsReads end before now
CountsInput (fails fault) before now = now ≡ before

-- the count of the output's faults, likewise
abbrev pub CountsOutput : PresignEnding → ℕ → ℕ → Type 0
CountsOutput (ends end) before now = CountsWrites end before now
CountsOutput (fails fault) before now = now ≡ before

-- A request that meets no test with what I/O supplied: the input isn't too large and is a job without events; the files are there, and give a key id, a secret
-- and a region; and at this moment no test of the request is met.
pub record IsAcceptable (gave : List Place → FilesRead → Type 0) (env : List (List ℕ × List ℕ)) (wanted : RequestWanted) (bytes : List ℕ) (files : FilesRead) (now : Instant) : Type 0 where
  pub read : RequestParts
  pub texts : List FileText
  pub selected : Selected
  pub request : HttpRequest
  pub until : ℤ
  pub short : length bytes ≤ most_input
  pub spelled : request_job bytes ≡ Ok read
  pub supplied : gave (source_places wanted.profile.files read.texts) files
  pub whole : files ≡ loaded texts
  pub settled : settings texts (selected_profile env) env wanted.profile.service_id ≡ Ok selected
  pub sent : IsRequestOf read request
  pub accepted : MeetsNone (presign_asked wanted.name selected request now) until

-- what a check that is done has done: the request is acceptable at the moment of the check, and the output gained until when it is good
abbrev pub HasAccepted : (List Place → FilesRead → Type 0) → List (List ℕ × List ℕ) → RequestWanted → List ℕ → PresignSupplied → Option (List ℕ) → Option (List ℕ) → Type 0
HasAccepted gave env wanted bytes given before now =
    (check : Check) × (given.check ≡ Some check) × (input : IsAcceptable gave env wanted bytes given.files check.now) × Gains before now (valid_until input.until)

-- the moment is that of the check, where it came to one
abbrev pub IsAtCheck : Option Check → Instant → Type 0
IsAtCheck None now = Unit {0}
IsAtCheck (Some check) now = now ≡ check.now

-- it is done; an I/O fault or running out of memory may come in between
abbrev pub CompletesCheck : PresignEnding → Type 0
CompletesCheck (ends end) = Completes end
CompletesCheck (fails fault) = ⊥

-- what the disk gave and the check found, and how the run went with an input of these bytes
pub record PlansPresigned (gave : List Place → FilesRead → Type 0) (env : List (List ℕ × List ℕ)) (wanted : RequestWanted) (bytes : List ℕ) (given : PresignSupplied) (answer : PresignEnding) (before now : Option (List ℕ)) : Type 0 where
  pub supplied : GavePresigned gave env wanted (request_job bytes) given
  pub goes : GoesPresigned (input_check_plan env wanted bytes given) answer before now

-- how a run went whose words ask for a check
pub record RanCheck (gave : List Place → FilesRead → Type 0) (clock : List Instant → Type 0) (env : List (List ℕ × List ℕ)) (wanted : RequestWanted) (left : Option (List ℕ)) (answer : PresignEnding) (before now : Option (List ℕ)) : Type 0 where
  pub given : PresignSupplied
  -- where it is done: the request was acceptable
  pub headline : (bytes : List ℕ) → left ≡ Some bytes → answer ≡ ends done → HasAccepted gave env wanted bytes given before now
  -- an acceptable request is accepted
  pub complete : (bytes : List ℕ) → left ≡ Some bytes → (at : Instant) → IsAtCheck given.check at → IsAcceptable gave env wanted bytes given.files at → CompletesCheck answer
  -- where the input shows its bytes, it ended and the output gained as planned
  pub planned : (bytes : List ℕ) → left ≡ Some bytes → PlansPresigned gave env wanted bytes given answer before now
  pub moments : TakesMomentOfCheck clock wanted.at given.check
  pub needed : NeedsCheck answer given.check
  pub ended : IsOfWords answer
  -- a file that couldn't be read is one that the words name
  pub named : (path : List ℕ) → answer ≡ ends (could_not_read_file path) → gave wanted.profile.files (unreadable path)

-- how a run went with what the words ask for; where a word is bad it ends so, and the clock isn't asked
abbrev pub RanWords : (List Place → FilesRead → Type 0) → (List Instant → Type 0) → List (List ℕ × List ℕ) → Result RequestWanted ℕ → Option (List ℕ) → PresignEnding → Option (List ℕ) → Option (List ℕ) → Type 0
RanWords gave clock env (Ok wanted) left answer before now = RanCheck gave clock env wanted left answer before now
RanWords gave clock env (Err place) left answer before now = ((answer ≡ ends (bad_words place)) ⊎ (answer ≡ ends no_memory)) × clock []

-- How a check of a presigned request went with what I/O supplied: `gave` says what the disk gave and `clock` what the clock gave, and the input had this left,
-- whose count of faults was `reads_before` and is `reads_now`.
pub record RanPresigned (gave : List Place → FilesRead → Type 0) (clock : List Instant → Type 0) (env : List (List ℕ × List ℕ)) (read : Result RequestWanted ℕ) (left : Option (List ℕ)) (answer : PresignEnding) (reads_before reads_now : ℕ) (out err : SinkChange) : Type 0 where
  pub ran : RanWords gave clock env read left answer out.held_before out.held_now
  -- what the output keeps also where the input doesn't show its bytes
  pub kept : KeepsPresigned answer out.held_before out.held_now
  -- what `err` gained
  pub said : SaysPresigned answer err.held_before err.held_now err.faults_before err.faults_now
  -- which counts rose
  pub reads : CountsInput answer reads_before reads_now
  pub writes : CountsOutput answer out.faults_before out.faults_now

-- where a word is bad
abbrev pub UnlessWords : Result RequestWanted ℕ → Type 0 → Type 0
UnlessWords (Ok wanted) P = Unit {0}
UnlessWords (Err place) P = P

-- ## Between the functions of a run: a reader of its promise needs none of it

-- how a check went of what was read
pub record HasChecked (gave : List Place → FilesRead → Type 0) (clock : List Instant → Type 0) (env : List (List ℕ × List ℕ)) (wanted : RequestWanted) (read : Result RequestParts ℕ) (answer : PresignEnding) (before now : Option (List ℕ)) : Type 0 where
  pub given : PresignSupplied
  pub supplied : GavePresigned gave env wanted read given
  pub goes : GoesPresigned (presign_plan env wanted given read) answer before now
  pub moments : TakesMomentOfCheck clock wanted.at given.check
  pub needed : NeedsCheck answer given.check
  pub named : (path : List ℕ) → answer ≡ ends (could_not_read_file path) → gave wanted.profile.files (unreadable path)

-- the request was checked, where it came to that
abbrev pub FindsAsked : RequestWanted → Selected → HttpRequest → Option Check → Type 0
FindsAsked wanted selected request None = Unit {0}
FindsAsked wanted selected request (Some check) = ChecksPresigned (presign_asked wanted.name selected request check.now) check.found

-- how the check of a request went under what is selected
pub record HasCheckedSelected (clock : List Instant → Type 0) (wanted : RequestWanted) (selected : Selected) (request : HttpRequest) (answer : PresignEnding) (before now : Option (List ℕ)) : Type 0 where
  pub check : Option Check
  pub moments : TakesMomentOfCheck clock wanted.at check
  pub found : FindsAsked wanted selected request check
  pub goes : GoesPresigned (plan_of_check check) answer before now
