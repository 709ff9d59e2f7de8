-- What the program gives an operation is what the operation is done with, and what it answers is what the program is to write, or how it ends.
use Rattle.std.proofs.Common.{◌≡◌, ℕ, inl, inr, List, map, Some, None, refl, ap, sym, ◌∙◌}
use Rattle.std.specs.Prelude.{Result, Ok, Err}
use Rattle.std.specs.Global.{Vec}
use Rattle.smithy_core.specs.Moment.{Instant}
use Rattle.smithy_core.specs.declared.identity.Identity.TheVariants.{Credentials}
use Rattle.smithy_core.specs.declared.request.HttpRequest.{HttpRequest}
use Rattle.job_text.specs.ProfileTexts.{ProfileTexts}
use Rattle.aws_auth.specs.Inputs.{chosen, given_config}
use Rattle.aws_auth.specs.Options.{default_options}
use Rattle.aws_auth.specs.Signer.{unless_there}
use Rattle.aws_auth.specs.declared.error.SigV4SigningError.TheVariants.{MissingOperationSigningConfig}
use Rattle.aws_auth.specs.declared.inputs.SigningInputs.{SigningInputs}
use Rattle.operation_run.specs.Over.{GoesOver}
use Rattle.operation_run.specs.Reply.{ReplyTexts, RequestTexts}
use Rattle.operation_run.specs.Rounds.{round_at}
use Rattle.operation_run.specs.declared.fault.OperationFault.{OperationFault}
use Rattle.operation_run.specs.declared.fault.OperationFault.TheVariants.{Id, Agent, Sign, TransportFault, NoMemory}
use Rattle.operation_run.specs.declared.reply.Outcome.{Outcome}
use Rattle.signed_stream.specs.Status.{Ending, no_memory, refused}
use Rattle.signed_stream.specs.Plan.{accepted}
use Rattle.signed_stream.specs.Settings.{selected_in}
use Rattle.signed_stream.specs.Sign.{error_ending}
use Rattle.signed_stream.specs.declared.settings.Settings.{Settings}
use Rattle.operation_program.specs.Attempting.{Scripted, heads_text}
use Rattle.operation_program.specs.Outcome.{GivesOutcome, GivesText, HaltsAttempts, IsProgramFault, attempt_fault_ending, scripted_over}
use Rattle.operation_program.specs.Status.{operation_ending, usual}
use Rattle.operation_program.specs.declared.status.OperationStatus.{OperationStatus}
use Rattle.operation_program.proofs.AttemptingLemmas.{IsPartsOf, gives_outcome}

-- the inputs hold a config alone, of this region and this name and with the default options
pub record IsProgramInputs (inputs : SigningInputs) (own_region own_name : List ℕ) : Type 0 where
  pub config : given_config inputs ≡ record { region = Some own_region; name = Some own_name; signing_options = default_options }
  pub given : unless_there inputs.config MissingOperationSigningConfig ≡ None
  pub endpoint : inputs.endpoint ≡ None
  pub region : inputs.region ≡ None
  pub name : inputs.name ≡ None
  pub payload : inputs.payload ≡ None

-- the program gives an operation what it is done with
pub program_parts : (env : List (List ℕ × List ℕ)) (request : HttpRequest) (texts : ProfileTexts) (settings : Settings) (name : List ℕ) (at : Instant) (replies : List ReplyTexts) (inputs : SigningInputs)
    → IsProgramInputs inputs settings.region name
    → IsPartsOf (scripted_over env request texts (selected_in settings) name at replies) (record { request = request; identity = Credentials settings.credentials; inputs = inputs; env = env })
unfolding chosen
program_parts env request texts settings name at replies inputs is = record {
  method = refl;
  target = refl;
  headers = refl;
  body = refl;
  env = refl;
  before = λ skew. rw (is.given, is.endpoint) refl;
  chosen_is = λ skew. rw (is.config, is.endpoint, is.region, is.name, is.payload) refl;
  key_id = refl;
  token = refl;
  secret = refl;
}

-- an operation that is signed by what is selected gives its outcome
pub selected_operation : (env : List (List ℕ × List ℕ)) (request : HttpRequest) (texts : ProfileTexts) (settings : Settings) (name : List ℕ) (at : Instant) (replies : List ReplyTexts) (inputs : SigningInputs)
    (sent : List RequestTexts) (answer : Result Outcome OperationFault) → IsProgramInputs inputs settings.region name
    → GoesOver (record { request = request; identity = Credentials settings.credentials; inputs = inputs; env = env }) at (map (round_at at) replies) sent answer
    → GivesOutcome (scripted_over env request texts (selected_in settings) name at replies) sent answer
selected_operation env request texts settings name at replies inputs sent answer is over =
    gives_outcome (scripted_over env request texts (selected_in settings) name at replies) (record { request = request; identity = Credentials settings.credentials; inputs = inputs; env = env })
    (program_parts env request texts settings name at replies inputs is) sent answer over

-- the heads of what was sent are what is to be written
pub text_made : (s : Scripted) (sent : List RequestTexts) (outcome : Outcome) (text : Vec ℕ) → GivesOutcome s sent (Ok outcome) → text.items ≡ heads_text sent outcome.attempts → GivesText s (Ok text)
text_made s sent outcome text (target, spells, so) is = (accepted target, spells, so ∙ ap Ok (sym is))

-- the faults of an operation of the program
pub program_fault : (s : Scripted) (sent : List RequestTexts) (fault : OperationFault) → GivesOutcome s sent (Err fault) → IsProgramFault fault
program_fault s sent (Sign error) (request, halts) = request
program_fault s sent TransportFault gives = tt
program_fault s sent NoMemory gives = tt
program_fault s sent (Agent fault) gives = absurd gives
program_fault s sent (Id fault) gives = absurd gives

-- how the program ends for a fault
pub text_refused : (s : Scripted) (sent : List RequestTexts) (fault : OperationFault) (status : OperationStatus) → GivesOutcome s sent (Err fault) → operation_ending status ≡ attempt_fault_ending fault
    → GivesText s (Err status)
text_refused s sent (Sign error) status (request, halts) is = by_halt (error_ending error) halts is
  where
    by_halt : (halt : Ending) → HaltsAttempts s halt → operation_ending status ≡ usual halt → GivesText s (Err status)
    by_halt (refused reason) (target, spells, so) is = inl (target, spells, so ∙ ap Err (sym is))
    by_halt no_memory halts is = inr is
    by_halt other halts is = absurd halts
text_refused s sent TransportFault status (target, spells, so) is = inl (accepted target, spells, so ∙ ap Err (sym is))
text_refused s sent NoMemory status gives is = inr is
text_refused s sent (Agent fault) status gives is = absurd gives
text_refused s sent (Id fault) status gives is = absurd gives
