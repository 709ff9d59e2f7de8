-- How a job and profile texts go as planned.
use Rattle.std.proofs.Common.{◌≡◌, ℕ, ◌≤◌, List, [], ◌∷◌, length, replicate, Option, Some, None, refl, sym, ap, ◌∙◌, subst}
use Rattle.std.specs.Prelude.{Result, Ok, Err, IsErrOf}
use Rattle.smithy_core.specs.Clock.{ClockState, GivesNext}
use Rattle.smithy_core.specs.Given.{Gives, GivesEach}
use Rattle.smithy_core.specs.Moment.{Instant}
use Rattle.smithy_core.specs.declared.outside.clock.Clock as Clock
use Rattle.smithy_core.specs.declared.outside.disk.Disk as Disk
use Rattle.smithy_core.proofs.GivenLemmas.{each_given, given_last}
use Rattle.smithy_core.specs.Outside.{CountsFault}
use Rattle.env_config.specs.Files.{Place}
use Rattle.signed_stream.specs.Carriers.{GoesForJob, GoesForRecord, GoesForTexts, IsAfterTexts}
use Rattle.signed_stream.specs.CheckRecord.{CarriesSeal, check_signer, sealed_plan}
use Rattle.signed_stream.specs.Command.{CheckWanted, Wanted}
use Rattle.signed_stream.specs.Effects.{ReadsAndWrites}
use Rattle.signed_stream.specs.Sending.{Sends}
use Rattle.job_text.specs.Job.{JobParts}
use Rattle.signed_stream.specs.Options.{IsOptionsOf, wanted_of}
use Rattle.signed_stream.specs.Plan.{FilesRead, GoesAsPlanned, Plan, SealRead, Supplied, TargetRead, plan_end, unread, unsought}
use Rattle.signed_stream.specs.ProfileOptions.{ProfileWanted}
use Rattle.job_text.specs.ProfileTexts.{ProfileTexts}
use Rattle.job_text.specs.Record.{RecordParts}
use Rattle.signed_stream.specs.Running.{OfClock}
use Rattle.signed_stream.specs.Settings.{Selected}
use Rattle.signed_stream.specs.Shown.{shown_settings}
use Rattle.signed_stream.specs.Sources.{selection, source_places}
use Rattle.signed_stream.specs.Status.{Ending, could_not_read_file, output_fault, ended}
use Rattle.signed_stream.specs.Stream.{job_texts, selected_plan}
use Rattle.signed_stream.specs.Streaming.{Streams, TakesFor, stream_wanted}
use Rattle.signed_stream.specs.declared.command.stream.StreamWords.{StreamWords}
use Rattle.signed_stream.specs.declared.status.StreamFault.{StreamFault}
use Rattle.signed_stream.specs.declared.status.StreamFault.TheVariants as faults
use Rattle.signed_stream.specs.declared.streaming.StreamOptions.{StreamOptions}
use Rattle.signed_stream.proofs.RunLemmas.{goes_stopped, no_moment}
use Rattle.signed_stream.proofs.SendLemmas.{text_goes}

-- ## How a stream ends

pub ended_after_texts : {T : Type 0} (answer : Result T StreamFault) → IsAfterTexts (ended answer)
ended_after_texts (Err faults.SinkFault) = tt
ended_after_texts other = tt

-- the run ends for the output only where the sink failed
ended_failed : {T : Type 0} (answer : Result T StreamFault) → ended answer ≡ output_fault → answer ≡ Err faults.SinkFault
ended_failed (Err faults.SinkFault) is = refl
ended_failed other is = cc

-- so a run counts the faults of a stream
pub ended_counts : {T : Type 0} (answer : Result T StreamFault) (end : Ending) (before now : ℕ) → end ≡ ended answer → CountsFault (IsErrOf answer faults.SinkFault) before now → CountsFault (end ≡ output_fault) before now
ended_counts answer end before now is counts =
    record { rose = λ failed. counts.rose (ended_failed answer (sym is ∙ failed)); stayed = λ other. counts.stayed (λ failed. other (is ∙ ap ended failed)); grew = counts.grew }

-- and a fault that is handed on counts as it did
pub counts_on : {T U : Type 0} (a : Result T StreamFault) (b : Result U StreamFault) (fault : StreamFault) (before now : ℕ) → a ≡ Err fault → b ≡ Err fault
    → CountsFault (IsErrOf a faults.SinkFault) before now → CountsFault (IsErrOf b faults.SinkFault) before now
counts_on a b fault before now first second counts =
    record { rose = λ is. counts.rose (same a b first second is); stayed = λ other. counts.stayed (λ is. other (same b a second first is)); grew = counts.grew }
  where
    same : {T U : Type 0} (a : Result T StreamFault) (b : Result U StreamFault) → a ≡ Err fault → b ≡ Err fault → b ≡ Err faults.SinkFault → a ≡ Err faults.SinkFault
    same a b first second is = first ∙ ap Err (let e = sym second ∙ is in cc)

-- no end names a file
pub ended_unnamed : {T : Type 0} (answer : Result T StreamFault) (path : List ℕ) → ended answer ≡ could_not_read_file path → ⊥
ended_unnamed (Err faults.SinkFault) path is = cc
ended_unnamed other path is = cc

-- so a run that ends as a stream does names no file, and writes as the stream does
pub ended_writes : {D T : Type 0} (disk : Disk.Ghosts D) (names : List ℕ → Type 0) (answer : Result T StreamFault) (end : Ending) (before now : D) (faults_before faults_now : ℕ) → end ≡ ended answer
    → CountsFault (IsErrOf answer faults.SinkFault) faults_before faults_now → disk.files now ≡ disk.files before → disk.faults before ≤ disk.faults now
    → ReadsAndWrites names end disk before now faults_before faults_now
ended_writes disk names answer end before now faults_before faults_now is counts same grew = record {
  named = λ path ends. absurd (ended_unnamed answer path (sym is ∙ ends));
  same = same;
  writes = ended_counts answer end faults_before faults_now is counts;
  count = grew;
}

-- ## The moments

-- the moments that were gained were taken
pub streams_take : {C : Type 0} (clock : Clock.Ghosts C) (start end : C) (old new : List Instant) (text : List ℕ) (plan : TargetRead → List Instant → Plan) (answer : Ending) (before now : Option (List ℕ))
    → Streams (λ taken. GivesEach clock start taken end) old new text plan answer before now → TakesFor (λ taken. Gives clock start taken end) text plan answer before now
streams_take clock start end old new text plan answer before now streams = record {
  target = streams.target;
  moments = streams.taken;
  spelled = streams.spelled;
  given = each_given clock start end streams.taken streams.given;
  goes = streams.goes;
  needed = streams.needed;
}

-- a clock that always gives one moment is asked in place of the other
pub fixed_takes : (fixed : Clock.Ghosts ClockState) → ((before : ClockState) (moment : Instant) (now : ClockState) → fixed.answers before moment now → GivesNext before moment now)
    → (clock : List Instant → Type 0) → clock [] → (start end : ClockState) (at : Instant) → start ≡ record { moments = []; last = at; calls = 0 }
    → (text : List ℕ) (plan : TargetRead → List Instant → Plan) (answer : Ending) (before now : Option (List ℕ))
    → TakesFor (λ moments. Gives fixed start moments end) text plan answer before now → TakesFor (OfClock clock (Some at)) text plan answer before now
fixed_takes fixed gives clock unasked start end at is text plan answer before now takes = record {
  target = takes.target;
  moments = takes.moments;
  spelled = takes.spelled;
  given = (given_last fixed gives start end takes.moments none takes.given.0 ∙ ap (λ (t : Instant). replicate (length takes.moments) t) last, unasked);
  goes = takes.goes;
  needed = takes.needed;
}
  where
    none : start.moments ≡ []
    none = ap (λ (c : ClockState). c.moments) is

    last : start.last ≡ at
    last = ap (λ (c : ClockState). c.last) is

-- ## The job

-- what the words ask of a stream is planned alike
plan_of_words : (words : StreamWords) (options : StreamOptions) (j : JobParts) (selected : Selected) → IsOptionsOf words options → (target : TargetRead) (moments : List Instant)
    → selected_plan j (stream_wanted options words.form) target moments selected ≡ selected_plan j (wanted_of words) target moments selected
plan_of_words words options j selected of target [] = refl
plan_of_words words options j selected of target (first ∷ others) = rw (of.name, of.signing, of.token_name, of.skew_millis) refl

-- a stream by options goes as the words ask
pub words_go : (taken : List Instant → Type 0) (text : List ℕ) (words : StreamWords) (options : StreamOptions) (j : JobParts) (selected : Selected) (answer : Ending) (before now : Option (List ℕ))
    → IsOptionsOf words options → TakesFor taken text (λ target moments. selected_plan j (stream_wanted options words.form) target moments selected) answer before now
    → TakesFor taken text (λ target moments. selected_plan j (wanted_of words) target moments selected) answer before now
words_go taken text words options j selected answer before now of goes = record {
  target = goes.target;
  moments = goes.moments;
  spelled = goes.spelled;
  given = goes.given;
  goes = subst (λ plan. GoesAsPlanned plan answer before now) (plan_of_words words options j selected of goes.target goes.moments) goes.goes;
  needed = λ front t rest is. sym (same front) ∙ goes.needed front t rest is;
}
  where
    same : (front : List Instant) → plan_end (selected_plan j (stream_wanted options words.form) goes.target front selected) ≡ plan_end (selected_plan j (wanted_of words) goes.target front selected)
    same front = rw (plan_of_words words options j selected of goes.target front) refl

module _ (gave : List Place → FilesRead → Type 0) (clock : List Instant → Type 0) (env : List (List ℕ × List ℕ)) (wanted : Wanted) where
  -- a job without its texts is planned alike
  plan_of_job : (j k : JobParts) (selected : Selected) (target : TargetRead) (moments : List Instant) → record j { config = None; credentials = None } ≡ record k { config = None; credentials = None }
      → selected_plan k wanted target moments selected ≡ selected_plan j wanted target moments selected
  plan_of_job j k selected target [] same = refl
  plan_of_job j k selected target (first ∷ others) same =
      subst (λ parts. selected_plan parts wanted target (first ∷ others) selected ≡ selected_plan j wanted target (first ∷ others) selected) same refl

  -- it goes as planned for what is selected
  pub job_goes : (j k : JobParts) (files : FilesRead) (selected : Selected) (answer : Ending) (before now : Option (List ℕ))
      → record j { config = None; credentials = None } ≡ record k { config = None; credentials = None } → gave (source_places wanted.profile.files (job_texts j)) files
      → selection env wanted.profile.service_id files ≡ Ok selected → TakesFor (OfClock clock wanted.at) j.target (λ target moments. selected_plan k wanted target moments selected) answer before now
      → GoesForJob gave clock env wanted j answer before now
  job_goes j k files selected answer before now same loads selects goes = record {
    given = record { files = files; moments = goes.moments; target = goes.target; seal = unsought };
    found = record { files = loads; target = goes.spelled };
    moments = goes.given;
    goes = rw selects (subst (λ plan. GoesAsPlanned plan answer before now) (plan_of_job j k selected goes.target goes.moments same) goes.goes);
    needed = λ front t rest cut. rw selects (sym (ends front) ∙ goes.needed front t rest cut);
  }
    where
      ends : (front : List Instant) → plan_end (selected_plan k wanted goes.target front selected) ≡ plan_end (selected_plan j wanted goes.target front selected)
      ends front = rw (plan_of_job j k selected goes.target front same) refl

  -- a job for which nothing is selected
  pub job_unselected : (j : JobParts) (files : FilesRead) (end : Ending) (held : Option (List ℕ)) → OfClock clock wanted.at []
      → gave (source_places wanted.profile.files (job_texts j)) files → selection env wanted.profile.service_id files ≡ Err end → GoesForJob gave clock env wanted j end held held
  job_unselected j files end held unasked loads selects = record {
    given = record { files = files; moments = []; target = unread; seal = unsought };
    found = record { files = loads; target = tt };
    moments = unasked;
    goes = rw selects (goes_stopped end held);
    needed = λ front t rest is. absurd (no_moment front t rest is);
  }

-- ## What is shown

-- what the outside gave for profile texts
abbrev files_given : FilesRead → Supplied
files_given files = record { files = files; moments = []; target = unread; seal = unsought }

pub texts_shown : {T : Type 0} (gave : List Place → FilesRead → Type 0) (env : List (List ℕ × List ℕ)) (wanted : ProfileWanted) (texts : ProfileTexts) (files : FilesRead) (selected : Selected) (answer : Result T StreamFault) (before now : Option (List ℕ))
    → gave (source_places wanted.files texts) files → selection env wanted.service_id files ≡ Ok selected → Sends None (shown_settings selected) before now answer
    → GoesForTexts gave env wanted texts (ended answer) before now
texts_shown gave env wanted texts files selected answer before now loads selects sends =
    (files_given files, loads, rw selects (text_goes (shown_settings selected) before now answer sends))

-- what the outside gave for a record
abbrev record_given : FilesRead → SealRead → Supplied
record_given files seal = record { files = files; moments = []; target = unread; seal = seal }

pub record_sealed : (gave : List Place → FilesRead → Type 0) (env : List (List ℕ × List ℕ)) (wanted : CheckWanted) (parts : RecordParts) (files : FilesRead) (selected : Selected) (seal : SealRead) (answer : Ending) (before now : Option (List ℕ))
    → gave (source_places wanted.profile.files parts.texts) files → selection env wanted.profile.service_id files ≡ Ok selected → CarriesSeal parts.headers parts.target selected.region wanted.name seal
    → GoesAsPlanned (sealed_plan (check_signer wanted selected) parts.chain seal) answer before now → GoesForRecord gave env wanted parts answer before now
record_sealed gave env wanted parts files selected seal answer before now loads selects carries goes =
    (record_given files seal, record { files = loads; seal = rw selects carries }, rw selects goes)

pub record_unselected : (gave : List Place → FilesRead → Type 0) (env : List (List ℕ × List ℕ)) (wanted : CheckWanted) (parts : RecordParts) (files : FilesRead) (end : Ending) (held : Option (List ℕ))
    → gave (source_places wanted.profile.files parts.texts) files → selection env wanted.profile.service_id files ≡ Err end → GoesForRecord gave env wanted parts end held held
record_unselected gave env wanted parts files end held loads selects =
    (record_given files unsought, record { files = loads; seal = rw selects tt }, rw selects (goes_stopped end held))

pub texts_unselected : (gave : List Place → FilesRead → Type 0) (env : List (List ℕ × List ℕ)) (wanted : ProfileWanted) (texts : ProfileTexts) (files : FilesRead) (end : Ending) (held : Option (List ℕ))
    → gave (source_places wanted.files texts) files → selection env wanted.service_id files ≡ Err end → GoesForTexts gave env wanted texts end held held
texts_unselected gave env wanted texts files end held loads selects = (files_given files, loads, rw selects (goes_stopped end held))
