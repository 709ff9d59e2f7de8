-- What a run promises.
use Rattle.std.specs.Prelude.{◌≡◌, ℕ, ◌≤◌, ◌⊎◌, Bool, true, false, if◌then◌else◌, List, [], ◌∷◌, ◌++◌, length, replicate, bytes_eq, codes, Option, Some, None, Result, Ok, Err}
use Rattle.smithy_core.specs.Civil.{is_in_years}
use Rattle.smithy_core.specs.Moment.{Instant}
use Rattle.smithy_core.specs.Outside.{Gains, RoseOrStands}
use Rattle.env_config.specs.Files.{Place}
use Rattle.signed_stream.specs.Case.{request_moment}
use Rattle.chain_watch.specs.Chain.{IsChainOf}
use Rattle.signed_stream.specs.CheckRecord.{GaveRecord, IsSoundRecord, check_plan, check_signer, shown_events}
use Rattle.signed_stream.specs.ChunkJob.{chunk_plan, shown_chunks}
use Rattle.signed_stream.specs.Command.{Command, Wanted, bad_word, check_record, command, generate, show_settings, stream, write_chunks}
use Rattle.signed_stream.specs.Generate.{generate_plan, shown_stream}
use Rattle.signed_stream.specs.Generator.{drawn_events}
use Rattle.job_text.specs.Job.{job}
use Rattle.signed_stream.specs.Plan.{FilesRead, GoesAsPlanned, IsNeeded, Plan, Supplied, most_input, stops, unless_large, unreadable}
use Rattle.job_text.specs.ProfileTexts.{profile_texts}
use Rattle.job_text.specs.Record.{spelled_record}
use Rattle.signed_stream.specs.Saying.{SaysEnding}
use Rattle.signed_stream.specs.ShowSettings.{GaveTexts, IsShowable, settings_plan}
use Rattle.signed_stream.specs.Shown.{shown_settings}
use Rattle.signed_stream.specs.Status.{Ending, RunFault, bad_job, bad_words, could_not_read_file, done, header_value_too_long, headers_too_long, invalid_header_name_length, job_too_large, message_too_long, moment_out_of_range, no_memory, output_fault, payload_too_long, read_fault, refused, timestamp_value_too_large}
use Rattle.signed_stream.specs.Stream.{GaveReading, IsStreamable, job_plan, streamed}
use Rattle.signed_stream.specs.WatchChain.{HasWatched, IsWholeInput, NamesUnread, UnlessRead, WatchesInput}
use Rattle.signed_stream.specs.WatchWords.{WatchWanted, read_after_watch}

-- ## The plan

-- what I/O supplied for an input's bytes; `gave` says what the disk gave
abbrev pub Gave : (List Place → FilesRead → Type 0) → List (List ℕ × List ℕ) → Command → List ℕ → Supplied → Type 0
Gave gave env (bad_word place) bytes given = Unit {0}
Gave gave env (stream wanted) bytes given = GaveReading gave wanted (job bytes) given
Gave gave env (show_settings wanted) bytes given = GaveTexts gave wanted (profile_texts bytes) given
Gave gave env (check_record wanted) bytes given = GaveRecord gave env wanted (spelled_record bytes) given
Gave gave env (write_chunks wanted) bytes given = Unit {0}
Gave gave env (generate seed count) bytes given = Unit {0}

-- with what a command reads of an input's bytes
abbrev pub read_plan : List (List ℕ × List ℕ) → Command → List ℕ → Supplied → Plan
read_plan env (bad_word place) bytes given = stops (bad_words place)
read_plan env (stream wanted) bytes given = job_plan env wanted given (job bytes)
read_plan env (show_settings wanted) bytes given = settings_plan env wanted given (profile_texts bytes)
read_plan env (check_record wanted) bytes given = check_plan env wanted given (spelled_record bytes)
read_plan env (write_chunks wanted) bytes given = chunk_plan wanted bytes
read_plan env (generate seed count) bytes given = generate_plan seed count

-- whether a command reads the input
abbrev pub reads_input : Command → Bool
reads_input (bad_word place) = false
reads_input (generate seed count) = false
reads_input command = true

-- whether a command asks for profile files
abbrev pub reads_files : Command → Bool
reads_files (stream wanted) = true
reads_files (show_settings wanted) = true
reads_files (check_record wanted) = true
reads_files command = false

-- where the test passes
abbrev pub When : Bool → Type 0 → Type 0
When true P = P
When false P = Unit {0}

-- the input shows these bytes; where the command reads none, any will do
abbrev pub ShowsInput : Command → Option (List ℕ) → List ℕ → Type 0
ShowsInput command left bytes = When (reads_input command) (left ≡ Some bytes)

-- what follows from the words, the variables, the input's bytes and what I/O supplied; words that are no command end the run before the input is asked
unfoldable pub command_plan : List (List ℕ × List ℕ) → Command → List ℕ → Supplied → Plan
command_plan env (bad_word place) bytes given = stops (bad_words place)
command_plan env (generate seed count) bytes given = generate_plan seed count
command_plan env command bytes given = unless_large bytes (read_plan env command bytes given)

-- the moments of a stream: those that the clock gave, or one and the same, for which the clock isn't asked; `clock` says what the clock gave
abbrev pub OfClock : (List Instant → Type 0) → Option Instant → List Instant → Type 0
OfClock clock None moments = clock moments
OfClock clock (Some at) moments = (moments ≡ replicate (length moments) at) × clock []

-- the moments that a command takes: `stream` alone takes any
abbrev pub TakesMoments : (List Instant → Type 0) → Command → List Instant → Type 0
TakesMoments clock (stream wanted) moments = OfClock clock wanted.at moments
TakesMoments clock command moments = (moments ≡ []) × clock []

-- I/O supplied this, the run went as planned for it, and took no moment that the plan didn't need
pub record RunsAsPlanned (gave : List Place → FilesRead → Type 0) (env : List (List ℕ × List ℕ)) (command : Command) (bytes : List ℕ) (given : Supplied) (answer : Ending) (before now : Option (List ℕ)) : Type 0 where
  pub supplied : Gave gave env command bytes given
  pub goes : GoesAsPlanned (command_plan env command bytes given) answer before now
  pub needed : IsNeeded (λ moments. command_plan env command bytes (record given { moments = moments })) given.moments

-- ## The run

-- the ends of a command: for no word
abbrev pub IsOfCommand : Ending → Type 0
IsOfCommand (bad_words place) = ⊥
IsOfCommand end = Unit {0}

-- the ends of a run that only writes: none for input, files or settings
abbrev pub IsOfOutput : Ending → Type 0
IsOfOutput done = Unit {0}
IsOfOutput output_fault = Unit {0}
IsOfOutput no_memory = Unit {0}
IsOfOutput end = ⊥

-- where the words are no command, it ends so, or out of memory; no other run ends for a word, and none that only writes for what it doesn't ask
abbrev pub EndsAsAsked : Command → Ending → Type 0
EndsAsAsked (bad_word place) answer = (answer ≡ bad_words place) ⊎ (answer ≡ no_memory)
EndsAsAsked (generate seed count) answer = IsOfOutput answer
EndsAsAsked command answer = IsOfCommand answer

-- where the words are no command
abbrev pub UnlessCommand : Command → Type 0 → Type 0
UnlessCommand (bad_word place) P = P
UnlessCommand command P = Unit {0}

-- the count of the input's faults: it rose where the input failed, and else stayed; memory may run out after a fault
abbrev pub CountsReads : Ending → ℕ → ℕ → Type 0
CountsReads read_fault before now = RoseOrStands before now
CountsReads no_memory before now = before ≤ now
CountsReads answer before now = now ≡ before

-- the count of the output's faults: it rose where the output failed, and else stayed; memory may run out after a fault
abbrev pub CountsWrites : Ending → ℕ → ℕ → Type 0
CountsWrites output_fault before now = RoseOrStands before now
CountsWrites no_memory before now = before ≤ now
CountsWrites answer before now = now ≡ before

-- the faults that a frame can have, and so an event, after the head was written; the request is refused for its moment where that doesn't lie in the years 0 to
-- 9999
abbrev pub may_be_of_frame : Bool → RunFault → Bool
may_be_of_frame in_years (moment_out_of_range moment) = in_years
may_be_of_frame in_years (invalid_header_name_length place) = true
may_be_of_frame in_years (header_value_too_long place) = true
may_be_of_frame in_years (timestamp_value_too_large place) = true
may_be_of_frame in_years (headers_too_long place) = true
may_be_of_frame in_years (payload_too_long place) = true
may_be_of_frame in_years (message_too_long place) = true
may_be_of_frame in_years fault = false

-- whether the request's moment may lie in the years 0 to 9999: any may that the clock gives
abbrev pub may_be_in_years : Wanted → Option Instant → Bool
may_be_in_years wanted None = true
may_be_in_years wanted (Some at) = is_in_years (request_moment wanted at)

-- whether a command can be refused for the fault after it has written; `stream` alone can
abbrev pub comes_late : Command → RunFault → Bool
comes_late (stream wanted) fault = may_be_of_frame (may_be_in_years wanted wanted.at) fault
comes_late command fault = false

-- where the test fails
abbrev pub Unless : Bool → Type 0 → Type 0
Unless true P = Unit {0}
Unless false P = P

-- the answers that leave the output as it was, whether or not the input shows its bytes: all but where it is done, was cut short, or is refused late
abbrev pub KeepsOutput : (RunFault → Bool) → Ending → Option (List ℕ) → Option (List ℕ) → Type 0
KeepsOutput late done before now = Unit {0}
KeepsOutput late (refused fault) before now = Unless (late fault) (now ≡ before)
KeepsOutput late output_fault before now = Unit {0}
KeepsOutput late no_memory before now = Unit {0}
KeepsOutput late answer before now = now ≡ before

-- the answers that come before the disk is asked
abbrev pub KeepsDisk : {D : Type 0} → Ending → D → D → Type 0
KeepsDisk (bad_words place) before now = now ≡ before
KeepsDisk job_too_large before now = now ≡ before
KeepsDisk (bad_job place) before now = now ≡ before
KeepsDisk read_fault before now = now ≡ before
KeepsDisk answer before now = Unit {0}

-- the file at this path is the first that words name and that couldn't be read
abbrev pub NamesUnreadable : (List Place → FilesRead → Type 0) → Command → List ℕ → Type 0
NamesUnreadable gave (stream wanted) path = gave wanted.profile.files (unreadable path)
NamesUnreadable gave (show_settings wanted) path = gave wanted.files (unreadable path)
NamesUnreadable gave (check_record wanted) path = gave wanted.profile.files (unreadable path)
NamesUnreadable gave command path = ⊥

-- ## The headline and completeness

-- What a run that is done has done. The headline: where the words ask to stream, the input can be streamed, and the output gained exactly the head of the
-- signed request and then the chain of the events. Where they ask to check, the frames of the record are the chain of the events that are shown, over the
-- signature of its request.
abbrev pub HasDone : (List Place → FilesRead → Type 0) → List (List ℕ × List ℕ) → Command → List ℕ → Supplied → Option (List ℕ) → Option (List ℕ) → Type 0
HasDone gave env (stream wanted) bytes given before now = (input : IsStreamable gave env wanted bytes given) × Gains before now (streamed input)
HasDone gave env (show_settings wanted) bytes given before now = (input : IsShowable gave env wanted bytes given) × Gains before now (shown_settings input.selected)
HasDone gave env (check_record wanted) bytes given before now =
    (input : IsSoundRecord gave env wanted bytes given) × IsChainOf (check_signer wanted input.selected) input.signature input.read.chain input.events × Gains before now (shown_events input.events)
HasDone gave env (write_chunks wanted) bytes given before now = (length bytes ≤ most_input) × Gains before now (shown_chunks wanted bytes)
HasDone gave env (generate seed count) bytes given before now = Gains before now (shown_stream (drawn_events count seed))
HasDone gave env command bytes given before now = ⊥

-- what can be done with what I/O supplied
abbrev pub CanBeDone : (List Place → FilesRead → Type 0) → List (List ℕ × List ℕ) → Command → List ℕ → Supplied → Type 0
CanBeDone gave env (stream wanted) bytes given = IsStreamable gave env wanted bytes given
CanBeDone gave env (show_settings wanted) bytes given = IsShowable gave env wanted bytes given
CanBeDone gave env (check_record wanted) bytes given = IsSoundRecord gave env wanted bytes given
CanBeDone gave env (write_chunks wanted) bytes given = length bytes ≤ most_input
CanBeDone gave env (generate seed count) bytes given = Unit {0}
CanBeDone gave env command bytes given = ⊥

-- the run is done; an I/O fault or running out of memory may come in between
abbrev pub Completes : Ending → Type 0
Completes answer = (answer ≡ done) ⊎ (answer ≡ read_fault) ⊎ (answer ≡ output_fault) ⊎ (answer ≡ no_memory)

-- a sink before a run and after it: what it holds, where it shows that, and its count of faults
pub record SinkChange : Type 0 where
  pub held_before : Option (List ℕ)
  pub held_now : Option (List ℕ)
  pub faults_before : ℕ
  pub faults_now : ℕ

-- How a run went with what I/O supplied: `gave` says what the disk gave and `clock` what the clock gave, and the input had this left, whose count of faults
-- was `reads_before` and is `reads_now`.
pub record Ran (gave : List Place → FilesRead → Type 0) (clock : List Instant → Type 0) (env : List (List ℕ × List ℕ)) (command : Command) (left : Option (List ℕ)) (given : Supplied) (answer : Ending) (reads_before reads_now : ℕ) (out err : SinkChange) : Type 0 where
  -- where it is done, the headline
  pub headline : (bytes : List ℕ) → ShowsInput command left bytes → answer ≡ done → HasDone gave env command bytes given out.held_before out.held_now
  -- what can be done with these files, at the moments that were taken and any later ones, is done
  pub complete : (bytes : List ℕ) → ShowsInput command left bytes → (other : Supplied) → other.files ≡ given.files → (later : List Instant) → other.moments ≡ given.moments ++ later
      → CanBeDone gave env command bytes other → Completes answer
  -- it ended as the words ask
  pub ended : EndsAsAsked command answer
  -- its moments are those of the clock, or the one that the words name
  pub moments : TakesMoments clock command given.moments
  -- where the input shows its bytes, it ended and the output gained as planned
  pub planned : (bytes : List ℕ) → ShowsInput command left bytes → RunsAsPlanned gave env command bytes given answer out.held_before out.held_now
  -- what the output keeps also where it doesn't
  pub kept : KeepsOutput (comes_late command) answer out.held_before out.held_now
  -- a file that couldn't be read is one that the words name
  pub named : (path : List ℕ) → answer ≡ could_not_read_file path → NamesUnreadable gave command path
  -- what `err` gained
  pub said : SaysEnding answer err.held_before err.held_now err.faults_before err.faults_now
  -- which counts rose
  pub reads : CountsReads answer reads_before reads_now
  pub writes : CountsWrites answer out.faults_before out.faults_now

-- ## What the words ask for

-- what the words ask for
pub data Task : Type 0 where
  -- to watch a chain, for what the words behind `watch` ask, or the first of them that is bad
  to_watch : Result WatchWanted ℕ → Task
  -- a command that goes by a plan for the whole of its input, or none
  to_run : Command → Task

-- what the words ask for: `watch` reads while it writes, and every other command goes by its plan
unfoldable pub task : List (List ℕ) → Task
task [] = to_run (command [])
task (word ∷ words) = if bytes_eq word (codes "watch") then to_watch (read_after_watch words) else to_run (command (word ∷ words))

-- the words ask to watch, as these words behind `watch` say, or for something else
abbrev pub AsksWatch : List (List ℕ) → Option (List (List ℕ)) → Type 0
AsksWatch words (Some rest) = task words ≡ to_watch (read_after_watch rest)
AsksWatch words None = task words ≡ to_run (command words)

-- where the words are bad
abbrev pub UnlessTask : Task → Type 0 → Type 0
UnlessTask (to_run command) P = UnlessCommand command P
UnlessTask (to_watch read) P = UnlessRead read P

-- whether what is asked for reads the input
abbrev pub takes_input : Task → Bool
takes_input (to_run command) = reads_input command
takes_input (to_watch (Err place)) = false
takes_input (to_watch (Ok wanted)) = true

-- whether what is asked for asks for profile files
abbrev pub takes_files : Task → Bool
takes_files (to_run command) = reads_files command
takes_files (to_watch (Err place)) = false
takes_files (to_watch (Ok wanted)) = true

-- the answers that come before the disk is asked; `watch` asks it before the input
abbrev pub AsksDiskLast : {D : Type 0} → Task → Ending → D → D → Type 0
AsksDiskLast (to_run command) answer before now = KeepsDisk answer before now
AsksDiskLast (to_watch read) answer before now = Unit {0}

-- how a watch went: there is what the files gave, under which the bytes taken were walked
pub record HasWatchedInput (gave : List Place → FilesRead → Type 0) (env : List (List ℕ × List ℕ)) (wanted : WatchWanted) (all left : Option (List ℕ)) (answer : Ending) (before now : Option (List ℕ)) : Type 0 where
  pub input : WatchesInput gave env wanted all left answer before now
  -- where it is done, the bytes are the chain of the events that are shown
  pub headline : (bytes : List ℕ) → all ≡ Some bytes → answer ≡ done → HasWatched env wanted bytes input.files before now
  -- a whole chain is shown
  pub complete : (bytes : List ℕ) → all ≡ Some bytes → IsWholeInput env wanted bytes input.files → Completes answer

-- a watch went so, or a word is bad
abbrev pub WentWatching : (List Place → FilesRead → Type 0) → List (List ℕ × List ℕ) → Result WatchWanted ℕ → Option (List ℕ) → Option (List ℕ) → Ending → Option (List ℕ) → Option (List ℕ) → Type 0
WentWatching gave env (Ok wanted) all left answer before now = HasWatchedInput gave env wanted all left answer before now
WentWatching gave env (Err place) all left answer before now = ((answer ≡ bad_words place) ⊎ (answer ≡ no_memory)) × (left ≡ all) × (now ≡ before)

-- How a watch went for which the words ask: the input had `all` and has `left`, and the clock wasn't asked.
pub record RanWatch (gave : List Place → FilesRead → Type 0) (clock : List Instant → Type 0) (env : List (List ℕ × List ℕ)) (read : Result WatchWanted ℕ) (all left : Option (List ℕ)) (answer : Ending) (reads_before reads_now : ℕ) (out err : SinkChange) : Type 0 where
  pub went : WentWatching gave env read all left answer out.held_before out.held_now
  pub moments : clock []
  -- a file that couldn't be read is one that the words name
  pub named : (path : List ℕ) → answer ≡ could_not_read_file path → NamesUnread gave read path
  -- what `err` gained
  pub said : SaysEnding answer err.held_before err.held_now err.faults_before err.faults_now
  -- which counts rose
  pub reads : CountsReads answer reads_before reads_now
  pub writes : CountsWrites answer out.faults_before out.faults_now

-- How a run went that the words ask for: there is what I/O supplied for which the headline holds, what can be done is done, and it ended, gained and said
-- what words, variables, input, files and clock ask for.
abbrev pub Went : (List Place → FilesRead → Type 0) → (List Instant → Type 0) → List (List ℕ × List ℕ) → Task → Option (List ℕ) → Option (List ℕ) → Ending → ℕ → ℕ → SinkChange → SinkChange → Type 0
Went gave clock env (to_run command) all left answer reads_before reads_now out err = (given : Supplied) × Ran gave clock env command all given answer reads_before reads_now out err
Went gave clock env (to_watch read) all left answer reads_before reads_now out err = RanWatch gave clock env read all left answer reads_before reads_now out err
