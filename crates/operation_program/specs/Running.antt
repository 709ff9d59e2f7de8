-- What a run of the program promises.
use Rattle.std.specs.Prelude.{◌≡◌, ℕ, ◌+◌, ◌≤◌, ◌⊎◌, true, false, nat_lt, if◌then◌else◌, List, [], codes, length, map, Option, Some, None, Result, Ok, Err}
use Rattle.smithy_core.specs.Moment.{Instant}
use Rattle.smithy_core.specs.Outside.{Gains, GainsPrefix, GainsProperPrefix, RoseOrStands}
use Rattle.smithy_core.specs.Text.{line}
use Rattle.smithy_http.specs.Target.{Target}
use Rattle.env_config.specs.Files.{Place}
use Rattle.env_config.specs.Loading.{selected_profile}
use Rattle.env_config.specs.Sections.{FileText}
use Rattle.job_text.specs.OperationJob.{OperationInput, operation_job}
use Rattle.signed_stream.specs.Plan.{FilesRead, TargetRead, TargetSpells, accepted, loaded, most_input, unreadable}
use Rattle.signed_stream.specs.ProfileOptions.{ProfileWanted}
use Rattle.signed_stream.specs.RequestWords.{RequestWanted, at_or_place, request_words}
use Rattle.signed_stream.specs.Running.{SinkChange}
use Rattle.signed_stream.specs.Saying.{ending_line}
use Rattle.signed_stream.specs.Settings.{Selected, settings}
use Rattle.signed_stream.specs.Sources.{selection, source_places}
use Rattle.signed_stream.specs.Status.{Ending, bad_job, bad_words, could_not_read_file, done, job_too_large, no_memory, output_fault, read_fault}
use Rattle.operation_program.specs.Attempting.{Scripted, attempts_made, heads_text, operation_outcome, scripted_fault, scripted_request, scripted_rounds, listed_reply}
use Rattle.operation_run.specs.Rounds.{first_there, is_used_up, tries}
use Rattle.operation_program.specs.Status.{OperationEnding, transport_fault, usual}

-- ## What the words ask for

-- the name of the service, the one moment, and the profile
pub record OperationWanted : Type 0 where
  pub name : List ℕ
  pub at : Instant
  pub profile : ProfileWanted

-- with the moment that the words name
abbrev pub wanted_at : RequestWanted → Result Instant ℕ → Result OperationWanted ℕ
wanted_at wanted (Ok at) = Ok (record { name = wanted.name; at = at; profile = wanted.profile })
wanted_at wanted (Err place) = Err place

-- the moment is needed: where it is missing, the place after the last word is bad
abbrev pub with_moment : ℕ → Result RequestWanted ℕ → Result OperationWanted ℕ
with_moment place (Ok wanted) = wanted_at wanted (at_or_place place wanted.at)
with_moment place (Err bad) = Err bad

-- what the words of an operation ask for, those behind the program's name, or the place of the first bad one
unfoldable pub operation_words : List (List ℕ) → Result OperationWanted ℕ
operation_words words = with_moment (length words + 1) (request_words words)

-- ## What is to be done

-- what I/O supplied in one call: what the files gave, and what the target of the job spells
pub record OperationSupplied : Type 0 where
  pub files : FilesRead
  pub target : TargetRead

-- what an operation is done with
abbrev pub scripted : List (List ℕ × List ℕ) → OperationWanted → OperationInput → Selected → Scripted
scripted env wanted input selected = record {
  env = env;
  request = input.request;
  selected = selected;
  name = wanted.name;
  at = wanted.at;
  replies = map listed_reply input.replies;
}

-- with what is selected, or how the run ends without it
abbrev pub outcome_selected : (Selected → Result (List ℕ) OperationEnding) → Result Selected Ending → Result (List ℕ) OperationEnding
outcome_selected others (Ok selected) = others selected
outcome_selected others (Err end) = Err (usual end)

-- with what was read: what is to be written, or how the run ends
abbrev pub outcome_read : List (List ℕ × List ℕ) → OperationWanted → OperationSupplied → Result OperationInput ℕ → Result (List ℕ) OperationEnding
outcome_read env wanted given (Ok input) =
    outcome_selected (λ selected. operation_outcome (scripted env wanted input selected) given.target) (selection env wanted.profile.service_id given.files)
outcome_read env wanted given (Err place) = Err (usual (bad_job place))

-- what follows from the words, the variables, the input's bytes and what I/O supplied
unfoldable pub run_outcome : List (List ℕ × List ℕ) → Result OperationWanted ℕ → List ℕ → OperationSupplied → Result (List ℕ) OperationEnding
run_outcome env (Ok wanted) bytes given =
    if nat_lt most_input (length bytes) then Err (usual job_too_large) else outcome_read env wanted given (operation_job bytes)
run_outcome env (Err place) bytes given = Err (usual (bad_words place))

-- what I/O supplied for what was read; `gave` says what the disk gave
pub record SuppliesJob (gave : List Place → FilesRead → Type 0) (wanted : OperationWanted) (input : OperationInput) (given : OperationSupplied) : Type 0 where
  pub files : gave (source_places wanted.profile.files input.request.texts) given.files
  pub target : TargetSpells input.request.target given.target

abbrev pub SuppliesRead : (List Place → FilesRead → Type 0) → OperationWanted → Result OperationInput ℕ → OperationSupplied → Type 0
SuppliesRead gave wanted (Ok input) given = SuppliesJob gave wanted input given
SuppliesRead gave wanted (Err place) given = Unit {0}

-- and for an input's bytes
abbrev pub Supplies : (List Place → FilesRead → Type 0) → Result OperationWanted ℕ → List ℕ → OperationSupplied → Type 0
Supplies gave (Ok wanted) bytes given = SuppliesRead gave wanted (operation_job bytes) given
Supplies gave (Err place) bytes given = Unit {0}

-- ## How it goes

-- the run ends as it is to; an I/O fault or running out of memory may come in between
abbrev pub EndsSo : Result (List ℕ) OperationEnding → OperationEnding → Type 0
EndsSo (Ok text) answer = (answer ≡ usual done) ⊎ (answer ≡ usual read_fault) ⊎ (answer ≡ usual output_fault) ⊎ (answer ≡ usual no_memory)
EndsSo (Err end) answer = (answer ≡ end) ⊎ (answer ≡ usual read_fault) ⊎ (answer ≡ usual no_memory)

-- what the output gained of a text: all where the run is done, a prefix after a fault of the output or once memory ran out, and else nothing
abbrev pub GainsUsual : List ℕ → Ending → Option (List ℕ) → Option (List ℕ) → Type 0
GainsUsual text done before now = Gains before now text
GainsUsual text output_fault before now = GainsPrefix before now text
GainsUsual text no_memory before now = GainsPrefix before now text
GainsUsual text answer before now = now ≡ before

abbrev pub GainsSo : Result (List ℕ) OperationEnding → OperationEnding → Option (List ℕ) → Option (List ℕ) → Type 0
GainsSo (Ok text) (usual answer) before now = GainsUsual text answer before now
GainsSo (Ok text) transport_fault before now = now ≡ before
GainsSo (Err end) answer before now = now ≡ before

-- the run ended, and the output gained, as is to be
pub record GoesSo (outcome : Result (List ℕ) OperationEnding) (answer : OperationEnding) (before now : Option (List ℕ)) : Type 0 where
  pub ends : EndsSo outcome answer
  pub gains : GainsSo outcome answer before now

-- the input shows these bytes; where the words are bad none is read, and any will do
abbrev pub ShowsBytes : Result OperationWanted ℕ → Option (List ℕ) → List ℕ → Type 0
ShowsBytes (Ok wanted) left bytes = left ≡ Some bytes
ShowsBytes (Err place) left bytes = Unit {0}

-- where the words of an operation are bad
abbrev pub UnlessWanted : Result OperationWanted ℕ → Type 0 → Type 0
UnlessWanted (Ok wanted) P = Unit {0}
UnlessWanted (Err place) P = P

-- where the words are bad it ends so, or out of memory; no other run ends for a word
abbrev pub EndsByWords : Result OperationWanted ℕ → OperationEnding → Type 0
EndsByWords (Err place) answer = (answer ≡ usual (bad_words place)) ⊎ (answer ≡ usual no_memory)
EndsByWords (Ok wanted) (usual (bad_words place)) = ⊥
EndsByWords (Ok wanted) answer = Unit {0}

-- the answers that leave the output as it was, whether or not the input shows its bytes
abbrev pub KeepsOut : OperationEnding → Option (List ℕ) → Option (List ℕ) → Type 0
KeepsOut (usual done) before now = Unit {0}
KeepsOut (usual output_fault) before now = Unit {0}
KeepsOut (usual no_memory) before now = Unit {0}
KeepsOut answer before now = now ≡ before

-- the answers that come before the disk is asked
abbrev pub KeepsFiles : {D : Type 0} → OperationEnding → D → D → Type 0
KeepsFiles (usual (bad_words place)) before now = now ≡ before
KeepsFiles (usual job_too_large) before now = now ≡ before
KeepsFiles (usual (bad_job place)) before now = now ≡ before
KeepsFiles (usual read_fault) before now = now ≡ before
KeepsFiles answer before now = Unit {0}

-- the file at this path is the first that words name and that couldn't be read
abbrev pub NamesFile : (List Place → FilesRead → Type 0) → Result OperationWanted ℕ → List ℕ → Type 0
NamesFile gave (Ok wanted) path = gave wanted.profile.files (unreadable path)
NamesFile gave (Err place) path = ⊥

-- a count of faults: it rose where the answer is a fault of its object, and else stayed; memory may run out after a fault
abbrev pub CountsFor : Ending → OperationEnding → ℕ → ℕ → Type 0
CountsFor fault answer before now = (answer ≡ usual fault → RoseOrStands before now) × ((answer ≡ usual fault → ⊥) → (answer ≡ usual no_memory → ⊥) → now ≡ before) × (before ≤ now)

-- the line of an end, and nothing where the run is done
abbrev pub operation_line : OperationEnding → List ℕ
operation_line (usual end) = ending_line end
operation_line transport_fault = line (codes "transport fault")

-- what `err` gained of an operation's run: nothing where it is done, a prefix of the line of some end where memory runs out, and else the line of the end, or, where the faults of
-- `err` rose, a prefix of it
abbrev pub SaysOperation : OperationEnding → Option (List ℕ) → Option (List ℕ) → ℕ → ℕ → Type 0
SaysOperation (usual done) before now faults_before faults_now = now ≡ before
SaysOperation (usual no_memory) before now faults_before faults_now = (end : OperationEnding) × GainsPrefix before now (operation_line end)
SaysOperation end before now faults_before faults_now =
    Gains before now (operation_line end) ⊎ (GainsProperPrefix before now (operation_line end) × RoseOrStands faults_before faults_now)

-- ## The headline and completeness

-- An operation can be made with what I/O supplied: the input isn't too large, and is a job; the files are there, and give a key id, a secret and a region; the
-- target is accepted, and no attempt that is made is refused.
pub record IsOperable (gave : List Place → FilesRead → Type 0) (env : List (List ℕ × List ℕ)) (wanted : OperationWanted) (bytes : List ℕ) (given : OperationSupplied) : Type 0 where
  pub input : OperationInput
  pub texts : List FileText
  pub selected : Selected
  pub target : Target
  pub short : length bytes ≤ most_input
  pub spelled : operation_job bytes ≡ Ok input
  pub supplied : SuppliesJob gave wanted input given
  pub files : given.files ≡ loaded texts
  pub settled : settings texts (selected_profile env) env wanted.profile.service_id ≡ Ok selected
  pub accepts : given.target ≡ accepted target
  pub passed : let s = scripted env wanted input selected in first_there (map (scripted_fault s (accepted target)) (attempts_made s)) ≡ None

-- The headline: an operation could be made, its replies weren't used up, and the output gained exactly the heads of the requests that were sent, in order, and
-- how many attempts were made.
abbrev pub HasOperated : (List Place → FilesRead → Type 0) → List (List ℕ × List ℕ) → Result OperationWanted ℕ → List ℕ → OperationSupplied → Option (List ℕ) → Option (List ℕ) → Type 0
HasOperated gave env (Ok wanted) bytes given before now =
    (job : IsOperable gave env wanted bytes given)
    × (let s = scripted env wanted job.input job.selected in
    (is_used_up (scripted_rounds s) ≡ false)
    × Gains before now (heads_text (map (scripted_request s job.target) (attempts_made s)) (tries (scripted_rounds s))))
HasOperated gave env (Err place) bytes given before now = ⊥

-- it could be made, but its replies were used up
abbrev pub HasFailed : (List Place → FilesRead → Type 0) → List (List ℕ × List ℕ) → Result OperationWanted ℕ → List ℕ → OperationSupplied → Type 0
HasFailed gave env (Ok wanted) bytes given = (job : IsOperable gave env wanted bytes given) × (is_used_up (scripted_rounds (scripted env wanted job.input job.selected)) ≡ true)
HasFailed gave env (Err place) bytes given = ⊥

-- an operation that can be made, and whose replies aren't used up
abbrev pub CanOperate : (List Place → FilesRead → Type 0) → List (List ℕ × List ℕ) → Result OperationWanted ℕ → List ℕ → OperationSupplied → Type 0
CanOperate gave env (Ok wanted) bytes given = (job : IsOperable gave env wanted bytes given) × (is_used_up (scripted_rounds (scripted env wanted job.input job.selected)) ≡ false)
CanOperate gave env (Err place) bytes given = ⊥

-- How a run went: `gave` says what the disk gave, and the input had this left, whose count of faults was `reads_before` and is `reads_now`. There is what I/O
-- supplied for which all of this holds.
pub record RanOperation (gave : List Place → FilesRead → Type 0) (env : List (List ℕ × List ℕ)) (read : Result OperationWanted ℕ) (left : Option (List ℕ)) (answer : OperationEnding) (reads_before reads_now : ℕ) (out err : SinkChange) : Type 0 where
  pub given : OperationSupplied
  -- where it is done, the headline
  pub headline : (bytes : List ℕ) → ShowsBytes read left bytes → answer ≡ usual done → HasOperated gave env read bytes given out.held_before out.held_now
  -- where the transport failed, no refusal was met and the replies are used up
  pub failed : (bytes : List ℕ) → ShowsBytes read left bytes → answer ≡ transport_fault → HasFailed gave env read bytes given
  -- what can be done with these files is done
  pub complete : (bytes : List ℕ) → ShowsBytes read left bytes → (target : TargetRead) → CanOperate gave env read bytes (record given { target = target })
      → EndsSo (Ok []) answer
  -- it ended as the words ask
  pub ended : EndsByWords read answer
  -- where the input shows its bytes, it ended and the output gained as is to be
  pub supplied : (bytes : List ℕ) → ShowsBytes read left bytes → Supplies gave read bytes given
  pub goes : (bytes : List ℕ) → ShowsBytes read left bytes → GoesSo (run_outcome env read bytes given) answer out.held_before out.held_now
  -- what the output keeps also where it doesn't
  pub kept : KeepsOut answer out.held_before out.held_now
  -- a file that couldn't be read is one that the words name
  pub named : (path : List ℕ) → answer ≡ usual (could_not_read_file path) → NamesFile gave read path
  -- what `err` gained
  pub said : SaysOperation answer err.held_before err.held_now err.faults_before err.faults_now
  -- which counts rose
  pub reads : CountsFor read_fault answer reads_before reads_now
  pub writes : CountsFor output_fault answer out.faults_before out.faults_now
