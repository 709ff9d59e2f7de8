-- The command `stream`: what a job asks of a run, and when it can be streamed.
use Rattle.std.specs.Prelude.{◌≡◌, ℕ, ◌≤◌, if◌then◌else◌, List, [], ◌∷◌, length, Result, Ok, Err, Option, Some, None}
use Rattle.smithy_core.specs.Civil.{IsInYears, is_in_years}
use Rattle.smithy_core.specs.Moment.{Instant}
use Rattle.smithy_core.specs.Message.{Parts}
use Rattle.smithy_http.specs.Target.{Target}
use Rattle.sigv4.specs.Request.{Case}
use Rattle.sigv4.specs.Refusal.{unfit, unfit_signed_target}
use Rattle.sigv4.specs.Signed.{signature_of}
use Rattle.env_config.specs.Files.{Place}
use Rattle.env_config.specs.Loading.{selected_profile}
use Rattle.env_config.specs.Sections.{FileText}
use Rattle.signed_stream.specs.Case.{job_case, request_moment}
use Rattle.chain_watch.specs.Chain.{IsWholeChain}
use Rattle.signed_stream.specs.Command.{Wanted}
use Rattle.job_text.specs.Job.{JobParts, job}
use Rattle.signed_stream.specs.Plan.{FilesRead, Plan, TargetSpells, Supplied, TargetRead, accepted, loaded, most_input, stops, unaccepted, unread, writes}
use Rattle.job_text.specs.ProfileTexts.{ProfileTexts}
use Rattle.signed_stream.specs.Settings.{Selected, settings}
use Rattle.signed_stream.specs.Sign.{case_fault}
use Rattle.signed_stream.specs.Sources.{selection, source_places, when_selected}
use Rattle.signed_stream.specs.Status.{RunFault, bad_job, invalid_uri, moment_out_of_range, no_memory, refused}
use Rattle.signed_stream.specs.declared.form.Form.{Form}
use Rattle.signed_stream.specs.Written.{case_refusal, written_stream, written_end, written_until}

-- ## What I/O supplied

-- the profile texts of a job
abbrev pub job_texts : JobParts → ProfileTexts
job_texts j = record { config = j.config; credentials = j.credentials }

-- for a job: what the files give, and what the job's target spells; `gave` says what the disk gave
pub record GaveJob (gave : List Place → FilesRead → Type 0) (wanted : Wanted) (j : JobParts) (given : Supplied) : Type 0 where
  pub files : gave (source_places wanted.profile.files (job_texts j)) given.files
  pub target : TargetSpells j.target given.target

-- for what was read
abbrev pub GaveReading : (List Place → FilesRead → Type 0) → Wanted → Result JobParts ℕ → Supplied → Type 0
GaveReading gave wanted (Ok j) given = GaveJob gave wanted j given
GaveReading gave wanted (Err place) given = Unit {0}

-- ## The plan

-- with a case, its target's text, its events and their moments: the first test of the request that fails, or else to write all, or what stands before the
-- first frame that is refused
abbrev pub case_plan : Form → List ℕ → Case → List Parts → List Instant → Option RunFault → Plan
case_plan form text c events moments (Some fault) = stops (refused fault)
case_plan form text c events moments None =
    let refusal = case_refusal c events moments in writes (written_until form refusal text c events moments) (written_end refusal events moments)

-- with what the target spells; it wasn't read where memory ran out before
abbrev pub target_plan : Form → List ℕ → (Target → Case) → List Parts → List Instant → TargetRead → Plan
target_plan form text case events moments unread = stops no_memory
target_plan form text case events moments unaccepted = stops (refused invalid_uri)
target_plan form text case events moments (accepted target) = case_plan form text (case target) events moments (case_fault (case target))

-- with the request's moment, which is tested before the target
abbrev pub request_plan : Form → List ℕ → Instant → (Target → Case) → List Parts → List Instant → TargetRead → Plan
request_plan form text at case events moments target = if is_in_years at then target_plan form text case events moments target else stops (refused (moment_out_of_range at))

-- with what is selected, and the moments; none was taken where memory ran out before
abbrev pub selected_plan : JobParts → Wanted → TargetRead → List Instant → Selected → Plan
selected_plan j wanted target [] selected = stops no_memory
selected_plan j wanted target (first ∷ others) selected =
    request_plan wanted.form j.target (request_moment wanted first) (job_case j wanted selected first) j.events others target

-- with what was read, under these variables
abbrev pub job_plan : List (List ℕ × List ℕ) → Wanted → Supplied → Result JobParts ℕ → Plan
job_plan env wanted given (Ok j) = when_selected (selected_plan j wanted given.target given.moments) (selection env wanted.profile.service_id given.files)
job_plan env wanted given (Err place) = stops (bad_job place)

-- ## What can be streamed

-- The files give a key id, a secret and a region; there is a first moment, and the request's lies in the years 0 to 9999; the target is accepted, no test of
-- the request fails, its signed target isn't too long, and the chain of the events at the other moments is defined
pub record IsValid (files : List FileText) (profile : List ℕ) (env : List (List ℕ × List ℕ)) (wanted : Wanted) (j : JobParts) (target : TargetRead) (moments : List Instant) : Type 0 where
  pub selected : Selected
  pub first : Instant
  pub others : List Instant
  pub parts : Target
  pub settled : settings files profile env wanted.profile.service_id ≡ Ok selected
  pub begins : moments ≡ first ∷ others
  pub accepts : target ≡ accepted parts
  pub years : IsInYears (request_moment wanted first)
  pub fit : unfit (job_case j wanted selected first parts) ≡ None
  pub fits : unfit_signed_target (job_case j wanted selected first parts) ≡ None
  pub chained : IsWholeChain (job_case j wanted selected first parts).signer j.events others (signature_of (job_case j wanted selected first parts))

module _ {files : List FileText} {profile : List ℕ} {env : List (List ℕ × List ℕ)} {wanted : Wanted} {j : JobParts} {target : TargetRead} {moments : List Instant}
    (input : IsValid files profile env wanted j target moments) where
  -- the case of its request
  abbrev pub valid_case : Case
  valid_case = job_case j wanted input.selected input.first input.parts

  -- the head of the signed request, and then the chain of the events
  abbrev pub written_valid : List ℕ
  written_valid = written_stream wanted.form j.target valid_case j.events input.others

-- The input can be streamed with what I/O supplied: it isn't too large, and is a job; the files are there, and all is valid.
pub record IsStreamable (gave : List Place → FilesRead → Type 0) (env : List (List ℕ × List ℕ)) (wanted : Wanted) (bytes : List ℕ) (given : Supplied) : Type 0 where
  pub read : JobParts
  pub texts : List FileText
  pub short : length bytes ≤ most_input
  pub spelled : job bytes ≡ Ok read
  pub supplied : GaveJob gave wanted read given
  pub files : given.files ≡ loaded texts
  pub valid : IsValid texts (selected_profile env) env wanted read given.target given.moments

-- the head of the signed request, and then the chain of the events
abbrev pub streamed : {gave : List Place → FilesRead → Type 0} {env : List (List ℕ × List ℕ)} {wanted : Wanted} {bytes : List ℕ} {given : Supplied} → IsStreamable gave env wanted bytes given → List ℕ
streamed input = written_valid input.valid
