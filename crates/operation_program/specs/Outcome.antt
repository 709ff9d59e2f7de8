-- What the functions of the program promise of an operation over replies. A reader of the program's promise needs none of it.
use Rattle.std.specs.Prelude.{◌≡◌, ◌⊎◌, ℕ, List, Result, Ok, Err, string_bytes}
use Rattle.std.specs.Global.{Vec}
use Rattle.smithy_core.specs.Moment.{Instant}
use Rattle.smithy_core.specs.declared.request.HttpRequest.{HttpRequest}
use Rattle.smithy_http.specs.Target.{Target}
use Rattle.job_text.specs.ProfileTexts.{ProfileTexts}
use Rattle.operation_run.specs.Reply.{ReplyTexts, RequestTexts}
use Rattle.operation_run.specs.declared.fault.OperationFault.{OperationFault}
use Rattle.operation_run.specs.declared.fault.OperationFault.TheVariants.{Id, Agent, Sign, TransportFault, NoMemory}
use Rattle.operation_run.specs.declared.reply.Outcome.{Outcome}
use Rattle.signed_stream.specs.Plan.{TargetSpells, TargetRead, accepted}
use Rattle.signed_stream.specs.Settings.{Selected}
use Rattle.signed_stream.specs.Sign.{IsRequestError, error_ending}
use Rattle.signed_stream.specs.Status.{Ending, no_memory, refused}
use Rattle.operation_program.specs.Attempting.{Scripted, heads_text, operation_outcome}
use Rattle.operation_program.specs.Status.{OperationEnding, operation_ending, transport_fault, usual}
use Rattle.operation_program.specs.declared.status.OperationStatus.{OperationStatus}

-- what an operation is done with, of a request and what is selected
abbrev pub scripted_over : List (List ℕ × List ℕ) → HttpRequest → ProfileTexts → Selected → List ℕ → Instant → List ReplyTexts → Scripted
scripted_over env request texts selected name at replies = record {
  env = env;
  request = record { method = string_bytes request.method; target = string_bytes request.target; headers = request.headers; body = request.body; texts = texts };
  selected = selected;
  name = name;
  at = at;
  replies = replies;
}

-- how the error of signing an attempt halts the operation
abbrev pub HaltsAttempts : Scripted → Ending → Type 0
HaltsAttempts s (refused fault) = (target : TargetRead) × TargetSpells s.request.target target × (operation_outcome s target ≡ Err (usual (refused fault)))
HaltsAttempts s no_memory = Unit {0}
HaltsAttempts s end = ⊥

-- what was sent is what is to be written, or the fault says how the operation ends
abbrev pub GivesOutcome : Scripted → List RequestTexts → Result Outcome OperationFault → Type 0
GivesOutcome s sent (Ok outcome) =
    (target : Target) × TargetSpells s.request.target (accepted target) × (operation_outcome s (accepted target) ≡ Ok (heads_text sent outcome.attempts))
GivesOutcome s sent (Err TransportFault) = (target : Target) × TargetSpells s.request.target (accepted target) × (operation_outcome s (accepted target) ≡ Err transport_fault)
GivesOutcome s sent (Err (Sign error)) = IsRequestError error × HaltsAttempts s (error_ending error)
GivesOutcome s sent (Err (Agent fault)) = ⊥
GivesOutcome s sent (Err (Id fault)) = ⊥
GivesOutcome s sent (Err NoMemory) = Unit {0}

-- the faults that an operation of the program can have
abbrev pub IsProgramFault : OperationFault → Type 0
IsProgramFault (Sign error) = IsRequestError error
IsProgramFault TransportFault = Unit {0}
IsProgramFault NoMemory = Unit {0}
IsProgramFault fault = ⊥

-- how the program ends with such a fault
abbrev pub attempt_fault_ending : OperationFault → OperationEnding
attempt_fault_ending (Sign error) = usual (error_ending error)
attempt_fault_ending TransportFault = transport_fault
attempt_fault_ending fault = usual no_memory

-- the ends of an operation that writes nothing
abbrev pub IsStop : OperationEnding → Type 0
IsStop (usual (refused fault)) = Unit {0}
IsStop (usual no_memory) = Unit {0}
IsStop transport_fault = Unit {0}
IsStop end = ⊥

-- the text is what is to be written, or the status says how the operation ends; or memory ran out
abbrev pub GivesText : Scripted → Result (Vec ℕ) OperationStatus → Type 0
GivesText s (Ok text) = (target : TargetRead) × TargetSpells s.request.target target × (operation_outcome s target ≡ Ok text.items)
GivesText s (Err status) =
    ((target : TargetRead) × TargetSpells s.request.target target × (operation_outcome s target ≡ Err (operation_ending status)))
    ⊎ (operation_ending status ≡ usual no_memory)
