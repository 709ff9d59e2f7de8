-- What a run is to do with what I/O supplied, and what it means that it goes so.
use Rattle.std.specs.Prelude.{◌≡◌, ℕ, ◌⊎◌, nat_lt, if◌then◌else◌, List, ◌∷◌, ◌++◌, length, Option}
use Rattle.smithy_core.specs.Moment.{Instant}
use Rattle.smithy_core.specs.Outside.{Gains, GainsPrefix}
use Rattle.smithy_http.specs.QueryWriter.{SpellsNoTarget}
use Rattle.smithy_http.specs.Target.{Target}
use Rattle.sigv4.specs.Parameters.{SpellsParts}
use Rattle.env_config.specs.Sections.{FileText}
use Rattle.signed_stream.specs.Status.{Ending, done, job_too_large, no_memory, output_fault, read_fault, refused}

-- ## What I/O supplied

-- what the target of a job spells
pub data TargetRead : Type 0 where
  -- it wasn't read
  unread : TargetRead
  -- it isn't accepted, or has an authority without a scheme
  unaccepted : TargetRead
  accepted : Target → TargetRead

-- the text spells this, where it was read
abbrev pub TargetSpells : List ℕ → TargetRead → Type 0
TargetSpells text unread = Unit {0}
TargetSpells text unaccepted = SpellsNoTarget text
TargetSpells text (accepted target) = SpellsParts text target

-- what the files give that a run needs
pub data FilesRead : Type 0 where
  -- they weren't read to the end
  unloaded : FilesRead
  -- their texts, in their order
  loaded : List FileText → FilesRead
  -- the first that couldn't be read, by its path
  unreadable : List ℕ → FilesRead

-- what seal a recorded request carries
pub data SealRead : Type 0 where
  -- it wasn't looked for
  unsought : SealRead
  -- none
  unsealed : SealRead
  -- one with this signature
  sealed_over : List ℕ → SealRead

-- what I/O supplied in one call
pub record Supplied : Type 0 where
  pub files : FilesRead
  -- the moments that were taken, in their order: the request's, those of the events, and the closing frame's
  pub moments : List Instant
  pub target : TargetRead
  -- the seal that a record's request carries
  pub seal : SealRead

-- ## What a run is to do

pub data Plan : Type 0 where
  -- to write nothing, and to end so
  stops : Ending → Plan
  -- to write this text, and then to end so
  writes : List ℕ → Ending → Plan

-- a run that is to stop does so, and one that is to write ends as it is to; an I/O fault or running out of memory may come in between
abbrev pub EndsAsPlanned : Plan → Ending → Type 0
EndsAsPlanned (stops end) answer = (answer ≡ end) ⊎ (answer ≡ read_fault) ⊎ (answer ≡ no_memory)
EndsAsPlanned (writes text end) answer = (answer ≡ end) ⊎ (answer ≡ read_fault) ⊎ (answer ≡ output_fault) ⊎ (answer ≡ no_memory)

-- what the output gained: the whole text where the run is done or refused after it, a prefix of it after a fault of the output or once memory ran out,
-- and else nothing
abbrev pub GainsAsPlanned : Plan → Ending → Option (List ℕ) → Option (List ℕ) → Type 0
GainsAsPlanned (stops end) answer before now = now ≡ before
GainsAsPlanned (writes text end) done before now = Gains before now text
GainsAsPlanned (writes text end) (refused fault) before now = Gains before now text
GainsAsPlanned (writes text end) output_fault before now = GainsPrefix before now text
GainsAsPlanned (writes text end) no_memory before now = GainsPrefix before now text
GainsAsPlanned (writes text end) answer before now = now ≡ before

-- how a run ends and what the output gained are as planned
pub record GoesAsPlanned (plan : Plan) (answer : Ending) (before now : Option (List ℕ)) : Type 0 where
  pub ends : EndsAsPlanned plan answer
  pub gains : GainsAsPlanned plan answer before now

-- how a plan is to end
abbrev pub plan_end : Plan → Ending
plan_end (stops end) = end
plan_end (writes text end) = end

-- a moment was taken only where the plan for those before it ends for lack of the next one
abbrev pub IsNeeded : (List Instant → Plan) → List Instant → Type 0
IsNeeded plan moments = (front : List Instant) (t : Instant) (rest : List Instant) → moments ≡ front ++ t ∷ rest → plan_end (plan front) ≡ no_memory

-- the most bytes of an input
abbrev pub most_input : ℕ
most_input = 67108864

-- with an input of these bytes: it is too large, or this
abbrev pub unless_large : List ℕ → Plan → Plan
unless_large bytes plan = if nat_lt most_input (length bytes) then stops job_too_large else plan
