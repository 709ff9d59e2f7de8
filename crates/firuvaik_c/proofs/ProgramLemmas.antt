-- What a run over objects in memory is for its caller.
use Rattle.std.proofs.Common.{◌≡◌, ◌++◌, ℕ, List, [], length, replicate, Option, Some, None, refl, ap, sym, ◌∙◌, arith}
use Rattle.std.specs.Prelude.{IfOk, Result, Ok, Err, unwrap_or}
use Rattle.smithy_core.specs.Clock.{ClockState}
use Rattle.smithy_core.specs.Given.{Gives}
use Rattle.smithy_core.specs.Moment.{Instant}
use Rattle.smithy_core.specs.contracts.outside.clock.FixedClockClock.TheImpl as fixed
use Rattle.smithy_core.specs.contracts.outside.disk.CalmDiskDisk.TheImpl as calm
use Rattle.smithy_core.proofs.GivenLemmas.{given_last}
use Rattle.env_config.specs.Files.{Place}
use Rattle.signed_stream.specs.Command.{Command, Wanted, bad_word, check_record, generate, show_settings, stream, write_chunks}
use Rattle.signed_stream.specs.Plan.{FilesRead, Supplied}
use Rattle.signed_stream.specs.Running.{OfClock, Ran, SinkChange, TakesMoments, Task, Went, task, to_run, to_watch}
use Rattle.signed_stream.specs.Sources.{DiskGives}
use Rattle.signed_stream.specs.Status.{Ending, bad_job, bad_words, check_failed, could_not_read_file, done, exit_code, job_too_large, no_memory, output_fault, read_fault, refused}
use Rattle.signed_stream.specs.Stream.{streamed}
use Rattle.firuvaik_c.specs.Programs.{HasRun, RunsOver, StreamsOver, World, clock_gives, files_give, gained}
use Rattle.firuvaik_c.specs.declared.program.ProgramText.{ProgramText}

-- ## Moments

module _ (old new : List Instant → Type 0) (more : (taken : List Instant) → old taken → new taken) where
  of_clock : (at : Option Instant) (moments : List Instant) → OfClock old at moments → OfClock new at moments
  of_clock None moments is = more moments is
  of_clock (Some at) moments is = (is.0, more [] is.1)

  takes_moments : (command : Command) (moments : List Instant) → TakesMoments old command moments → TakesMoments new command moments
  takes_moments (stream wanted) moments is = of_clock wanted.at moments is
  takes_moments (bad_word place) moments is = (is.0, more [] is.1)
  takes_moments (show_settings wanted) moments is = (is.0, more [] is.1)
  takes_moments (check_record wanted) moments is = (is.0, more [] is.1)
  takes_moments (write_chunks wanted) moments is = (is.0, more [] is.1)
  takes_moments (generate seed count) moments is = (is.0, more [] is.1)

  module _ (gave : List Place → FilesRead → Type 0) (env : List (List ℕ × List ℕ)) (all left : Option (List ℕ)) (end : Ending) (before now : ℕ) (out err : SinkChange) where
    ran_so : (command : Command) (given : Supplied) → Ran gave old env command all given end before now out err
        → Ran gave new env command all given end before now out err
    ran_so command given is = record {
      headline = is.headline;
      complete = is.complete;
      ended = is.ended;
      moments = takes_moments command given.moments is.moments;
      planned = is.planned;
      kept = is.kept;
      named = is.named;
      said = is.said;
      reads = is.reads;
      writes = is.writes;
    }

    -- what went with a clock went with one of which less is told
    went_so : (asked : Task) → Went gave old env asked all left end before now out err → Went gave new env asked all left end before now out err
    went_so (to_run command) (given, is) = (given, ran_so command given is)
    went_so (to_watch read) is = record {
      went = is.went;
      moments = more [] is.moments;
      named = is.named;
      said = is.said;
      reads = is.reads;
      writes = is.writes;
    }

-- ## The headline

code_done : (end : Ending) → exit_code end ≡ 0 → end ≡ done
code_done done is = refl
code_done (bad_words place) is = absurd (omega (arith, is))
code_done job_too_large is = absurd (omega (arith, is))
code_done (bad_job place) is = absurd (omega (arith, is))
code_done read_fault is = absurd (omega (arith, is))
code_done (could_not_read_file path) is = absurd (omega (arith, is))
code_done (refused fault) is = absurd (omega (arith, is))
code_done (check_failed fault) is = absurd (omega (arith, is))
code_done output_fault is = absurd (omega (arith, is))
code_done no_memory is = absurd (omega (arith, is))

same_text : (text other : List ℕ) → Some text ≡ Some other → text ≡ other
same_text text other is = ap (λ (held : Option (List ℕ)). unwrap_or held text) is

streams : (world : World) (asked : Task) (wanted : Wanted) (end : Ending) (left output said : List ℕ) → asked ≡ to_run (stream wanted) → end ≡ done
    → Went (files_give world) (clock_gives world) world.env asked (Some world.input) (Some left) end 0 0 (gained output) (gained said)
    → StreamsOver world wanted output
streams world asked wanted end left output said is ends went =
    let ran = rw is at went in
    let has = ran.1.headline world.input refl ends in
    (ran.0, has.0, same_text output (streamed has.0) has.1)

-- ## The run

-- what a run over objects in memory that hold the world wrote and said
has_run : (world : World) (end : Ending) (left output said : List ℕ) (ran : ProgramText) → RunsOver world end left output said → ran.text.items ≡ output ++ said
    → ran.outcome ≡ record { code = exit_code end; output_length = length output } → HasRun world ran
has_run world end left output said ran runs text outcome = record {
  end = end;
  left = left;
  output = output;
  said = said;
  runs = runs;
  headline = λ wanted asks code. streams world (task world.words) wanted end left output said asks (code_done end (sym (ap (λ o. o.code) outcome) ∙ code)) runs;
  text = text;
  outcome = outcome;
}

-- it went over the world
runs_over : (world : World) (disk disk_now : List (List ℕ × List ℕ)) (clock clock_now : ClockState) (input left out output err said : List ℕ) (end : Ending)
    → Some disk ≡ Some world.files → Some disk_now ≡ Some disk → clock ≡ record { moments = []; last = world.at; calls = 0 } → Some input ≡ Some world.input
    → Some out ≡ Some [] → Some err ≡ Some []
    → Went (DiskGives calm.ghosts.answers calm.ghosts.faults (Some disk) world.env disk disk_now) (λ taken. Gives fixed.ghosts clock taken clock_now) world.env
    (task world.words) (Some input) (Some left) end 0 0 (record { held_before = Some out; held_now = Some output; faults_before = 0; faults_now = 0 })
    (record { held_before = Some err; held_now = Some said; faults_before = 0; faults_now = 0 })
    → RunsOver world end left output said
runs_over world disk disk_now clock clock_now input left out output err said end files stays at reads writes says went =
    let same : (some other : List (List ℕ × List ℕ)) → Some some ≡ Some other → some ≡ other = λ some other is.
    ap (λ (held : Option (List (List ℕ × List ℕ))). unwrap_or held some) is in
    let moments : (taken : List Instant) → Gives fixed.ghosts clock taken clock_now → clock_gives world taken = λ taken gives.
    given_last fixed.ghosts (λ before moment now one. one) clock clock_now taken (ap (λ (c : ClockState). c.moments) at) gives.0
    ∙ ap (λ (c : ClockState). replicate (length taken) c.last) at in
    went_so (λ taken. Gives fixed.ghosts clock taken clock_now) (clock_gives world) moments (files_give world) world.env (Some world.input) (Some left) end 0 0
    (gained output) (gained said) (task world.words)
    (rw (same disk_now disk stays, same disk world.files files, same_text input world.input reads, same_text out [] writes, same_text err [] says) at went)

-- and so its texts are those that are handed out
pub all_run : {E : Type 0} (world : World) (disk disk_now : List (List ℕ × List ℕ)) (clock clock_now : ClockState) (input left out output err said held held_err : List ℕ)
    (end : Ending) (result : Result ProgramText E) → Some disk ≡ Some world.files → Some disk_now ≡ Some disk
    → clock ≡ record { moments = []; last = world.at; calls = 0 } → Some input ≡ Some world.input → Some out ≡ Some [] → Some err ≡ Some []
    → Some output ≡ Some held → Some said ≡ Some held_err
    → Went (DiskGives calm.ghosts.answers calm.ghosts.faults (Some disk) world.env disk disk_now) (λ taken. Gives fixed.ghosts clock taken clock_now) world.env
    (task world.words) (Some input) (Some left) end 0 0 (record { held_before = Some out; held_now = Some output; faults_before = 0; faults_now = 0 })
    (record { held_before = Some err; held_now = Some said; faults_before = 0; faults_now = 0 })
    → IfOk result (λ ran. ran.text.items ≡ held ++ held_err) → IfOk result (λ ran. ran.outcome ≡ record { code = exit_code end; output_length = length held })
    → IfOk result (HasRun world)
all_run world disk disk_now clock clock_now input left out output err said held held_err end (Err e) files stays at reads writes says gave spoken went text outcome = tt
all_run world disk disk_now clock clock_now input left out output err said held held_err end (Ok ran) files stays at reads writes says gave spoken went text outcome =
    let wrote = same_text output held gave in
    let spoke = same_text said held_err spoken in
    has_run world end left output said ran (runs_over world disk disk_now clock clock_now input left out output err said end files stays at reads writes says went)
    (rw (wrote, spoke) text) (rw wrote outcome)
