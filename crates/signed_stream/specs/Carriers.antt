-- What the functions below `run` promise to one another, and what carries the proofs of its promises. A reader of those needs none of it: they are in
-- Running, and what they rest on in Plan, Stream and ShowSettings.
use Rattle.std.specs.Prelude.{ℕ, List, Option, Ok}
use Rattle.smithy_core.specs.Moment.{Instant}
use Rattle.env_config.specs.Files.{Place}
use Rattle.signed_stream.specs.CheckRecord.{GaveRecord, check_plan}
use Rattle.signed_stream.specs.Command.{CheckWanted, Command, Wanted}
use Rattle.signed_stream.specs.ProfileOptions.{ProfileWanted}
use Rattle.job_text.specs.Job.{JobParts}
use Rattle.signed_stream.specs.Plan.{FilesRead, GoesAsPlanned, IsNeeded, Plan, Supplied}
use Rattle.job_text.specs.ProfileTexts.{ProfileTexts}
use Rattle.job_text.specs.Record.{RecordParts}
use Rattle.signed_stream.specs.Running.{Gave, OfClock, RunsAsPlanned, TakesMoments, ShowsInput, read_plan}
use Rattle.signed_stream.specs.ShowSettings.{GaveTexts, settings_plan}
use Rattle.signed_stream.specs.Status.{Ending, bad_job, check_failed, could_not_read_file, done, no_memory, output_fault, refused}
use Rattle.signed_stream.specs.Stream.{GaveJob, job_plan}

-- what a function below `run` promises of a plan: there is what I/O supplied, for which the answer is as planned, and no moment was taken that the plan
-- didn't need
pub record Goes (supplied : Supplied → Type 0) (taken : List Instant → Type 0) (plan : Supplied → Plan) (answer : Ending) (before now : Option (List ℕ)) : Type 0 where
  pub given : Supplied
  pub found : supplied given
  pub moments : taken given.moments
  pub goes : GoesAsPlanned (plan given) answer before now
  pub needed : IsNeeded (λ moments. plan (record given { moments = moments })) given.moments

module _ (gave : List Place → FilesRead → Type 0) (clock : List Instant → Type 0) (env : List (List ℕ × List ℕ)) where
  -- as planned for what a command reads of these bytes
  abbrev pub GoesForBytes : Command → List ℕ → Ending → Option (List ℕ) → Option (List ℕ) → Type 0
  GoesForBytes command bytes = Goes (Gave gave env command bytes) (TakesMoments clock command) (λ given. read_plan env command bytes given)

  -- as planned for what I/O supplied for an input, where it shows its bytes
  abbrev pub GoesForInput : Command → Option (List ℕ) → Ending → Option (List ℕ) → Option (List ℕ) → Type 0
  GoesForInput command left answer before now =
      (given : Supplied) × TakesMoments clock command given.moments × ((bytes : List ℕ) → ShowsInput command left bytes → RunsAsPlanned gave env command bytes given answer before now)

  -- as planned for a job
  abbrev pub GoesForJob : Wanted → JobParts → Ending → Option (List ℕ) → Option (List ℕ) → Type 0
  GoesForJob wanted j = Goes (GaveJob gave wanted j) (OfClock clock wanted.at) (λ given. job_plan env wanted given (Ok j))

-- as planned for profile texts, which take no moment
abbrev pub GoesForTexts : (List Place → FilesRead → Type 0) → List (List ℕ × List ℕ) → ProfileWanted → ProfileTexts → Ending → Option (List ℕ) → Option (List ℕ) → Type 0
GoesForTexts gave env wanted texts answer before now =
    (given : Supplied) × GaveTexts gave wanted (Ok texts) given × GoesAsPlanned (settings_plan env wanted given (Ok texts)) answer before now

-- as planned for a record, which takes no moment
abbrev pub GoesForRecord : (List Place → FilesRead → Type 0) → List (List ℕ × List ℕ) → CheckWanted → RecordParts → Ending → Option (List ℕ) → Option (List ℕ) → Type 0
GoesForRecord gave env wanted parts answer before now =
    (given : Supplied) × GaveRecord gave env wanted (Ok parts) given × GoesAsPlanned (check_plan env wanted given (Ok parts)) answer before now

-- the ends once a job or texts were read
abbrev pub IsAfterTexts : Ending → Type 0
IsAfterTexts done = Unit {0}
IsAfterTexts (could_not_read_file path) = Unit {0}
IsAfterTexts (refused fault) = Unit {0}
IsAfterTexts (check_failed fault) = Unit {0}
IsAfterTexts output_fault = Unit {0}
IsAfterTexts no_memory = Unit {0}
IsAfterTexts end = ⊥

-- the ends once the input was read to its end
abbrev pub IsAfterInput : Ending → Type 0
IsAfterInput (bad_job place) = Unit {0}
IsAfterInput end = IsAfterTexts end
