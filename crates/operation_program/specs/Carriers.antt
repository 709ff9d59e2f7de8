-- What the functions below `run_operation` promise to one another. A reader of its promise needs none of it.
use Rattle.std.specs.Prelude.{ℕ, List, Option, Result, string_bytes}
use Rattle.env_config.specs.Files.{Place}
use Rattle.smithy_core.specs.declared.request.HttpRequest.{HttpRequest}
use Rattle.job_text.specs.OperationJob.{OperationInput, ReplyParts}
use Rattle.job_text.specs.ProfileTexts.{ProfileTexts}
use Rattle.signed_stream.specs.Plan.{FilesRead, TargetRead, TargetSpells}
use Rattle.signed_stream.specs.Settings.{Selected}
use Rattle.signed_stream.specs.Status.{bad_job, could_not_read_file, done, no_memory, output_fault, refused}
use Rattle.operation_program.specs.Attempting.{Scripted, operation_outcome}
use Rattle.operation_program.specs.Running.{GoesSo, OperationSupplied, OperationWanted, Supplies, SuppliesRead, ShowsBytes, outcome_read, run_outcome, scripted}
use Rattle.operation_program.specs.Status.{OperationEnding, transport_fault, usual}

-- what an operation is done with, of a request and replies that were read
abbrev pub scripted_with : List (List ℕ × List ℕ) → OperationWanted → HttpRequest → ProfileTexts → List ReplyParts → Selected → Scripted
scripted_with env wanted request texts replies selected = scripted env wanted (record {
  request = record { method = string_bytes request.method; target = string_bytes request.target; headers = request.headers; body = request.body; texts = texts };
  replies = replies;
}) selected

-- there is what the target spells, for which the run ended and the output gained as is to be
abbrev pub GoesScripted : Scripted → OperationEnding → Option (List ℕ) → Option (List ℕ) → Type 0
GoesScripted s answer before now = (target : TargetRead) × TargetSpells s.request.target target × GoesSo (operation_outcome s target) answer before now

-- there is what I/O supplied for what was read, for which the run ended and the output gained as is to be
pub record GoesRead (gave : List Place → FilesRead → Type 0) (env : List (List ℕ × List ℕ)) (wanted : OperationWanted) (read : Result OperationInput ℕ) (answer : OperationEnding) (before now : Option (List ℕ)) : Type 0 where
  pub given : OperationSupplied
  pub found : SuppliesRead gave wanted read given
  pub goes : GoesSo (outcome_read env wanted given read) answer before now

-- and for what I/O supplied for an input, where it shows its bytes
abbrev pub GoesFor : (List Place → FilesRead → Type 0) → List (List ℕ × List ℕ) → Result OperationWanted ℕ → Option (List ℕ) → OperationEnding → Option (List ℕ) → Option (List ℕ) → Type 0
GoesFor gave env read left answer before now =
    (given : OperationSupplied) × ((bytes : List ℕ) → ShowsBytes read left bytes → Supplies gave read bytes given × GoesSo (run_outcome env read bytes given) answer before now)

-- the ends once all is selected
abbrev pub IsAfterSelected : OperationEnding → Type 0
IsAfterSelected (usual done) = Unit {0}
IsAfterSelected (usual (refused fault)) = Unit {0}
IsAfterSelected (usual output_fault) = Unit {0}
IsAfterSelected (usual no_memory) = Unit {0}
IsAfterSelected transport_fault = Unit {0}
IsAfterSelected answer = ⊥

-- the ends once a job was read
abbrev pub IsAfterJob : OperationEnding → Type 0
IsAfterJob (usual (could_not_read_file path)) = Unit {0}
IsAfterJob answer = IsAfterSelected answer

-- the ends once the input was read to its end
abbrev pub IsAfterBytes : OperationEnding → Type 0
IsAfterBytes (usual (bad_job place)) = Unit {0}
IsAfterBytes answer = IsAfterJob answer
