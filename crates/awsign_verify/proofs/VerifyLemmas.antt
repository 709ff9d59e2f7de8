-- Who signed a request, or why that isn't told.
use Rattle.std.proofs.Common.{ℕ, inl, inr, List, refl}
use Rattle.std.specs.Prelude.{Result, Ok, Err}
use Rattle.smithy_core.specs.Moment.{Instant}
use Rattle.smithy_core.specs.declared.request.HttpRequest.{HttpRequest}
use Rattle.request_door.specs.Doors.{AnswersDoor}
use Rattle.request_door.specs.declared.fault.DoorFault.{DoorFault}
use Rattle.request_door.specs.declared.fault.DoorFault.TheVariants as door
use Rattle.awsign_words.specs.Words.{OptionValues}
use Rattle.awsign_run.specs.Chosen.{IsFaultOf, SignRefusal, SignsFor, refusal_of}
use Rattle.awsign_run.specs.declared.fault.Fault.{Fault}
use Rattle.awsign_run.specs.declared.fault.Fault.TheVariants as run
use Rattle.awsign_run.specs.declared.status.Status.TheVariants.{NoMemory}
use Rattle.awsign_run.specs.Status.{fault_status}
use Rattle.awsign_verify.specs.Verify.{Judges, JudgesFor, door_verify_status, verify_input}
use Rattle.awsign_verify.specs.declared.status.VerifyStatus.TheVariants.{Ended}

module _ (options : OptionValues) (request : HttpRequest) (body : List ℕ) (at : Instant) where
  -- a request that its service doesn't let in
  pub not_admitted : (signer : SignsFor) (fault : DoorFault) → AnswersDoor (verify_input options signer request body at) (Err fault)
      → Judges options signer request body at (Err (door_verify_status fault))
  not_admitted signer door.NoMemory answers = tt
  not_admitted signer fault answers = answers

  -- memory may always run out
  out_of_memory : (planned : Result SignsFor SignRefusal) → JudgesFor options planned request body at (Err (Ended NoMemory))
  out_of_memory (Ok signer) = tt
  out_of_memory (Err refusal) = tt

  -- why nobody is chosen
  refused : (fault : Fault) → JudgesFor options (Err (refusal_of fault)) request body at (Err (Ended (fault_status fault)))
  refused run.NoMemory = tt
  refused fault = refl

  -- nobody is chosen
  pub signer_lacks : (planned : Result SignsFor SignRefusal) (fault : Fault) → IsFaultOf planned fault → JudgesFor options planned request body at (Err (Ended (fault_status fault)))
  signer_lacks planned fault (inl is) = rw is (refused fault)
  signer_lacks planned fault (inr is) = rw is (out_of_memory planned)
