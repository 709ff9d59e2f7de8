-- What an operation with its attempts promises.
use Rattle.std.specs.Prelude.{◌≡◌, ◌⊎◌, ℕ, ◌<◌, ◌≤◌, pos, List, [], ◌∷◌, ◌++◌, flat_map, length, map, Option, Result, Ok, Err}
use Rattle.smithy_core.specs.Moment.{Instant}
use Rattle.aws_intercept.specs.ClockSkew.{bag_with_kept}
use Rattle.aws_intercept.specs.Invocation.{with_id}
use Rattle.aws_intercept.specs.declared.bag.ConfigBag.{ConfigBag}
use Rattle.aws_intercept.specs.declared.id_fault.IdFault.{IdFault}
use Rattle.operation_run.specs.Again.{Round, answered, attempt_bag, attempts, round_moments}
use Rattle.operation_run.specs.Attempt.{IsSent, OperationParts, RefusesAgent, RefusesSigning}
use Rattle.operation_run.specs.Fault.{no_id}
use Rattle.operation_run.specs.Reply.{ReplyTexts, RequestTexts, reply_texts}
use Rattle.operation_run.specs.Transport.{Appends}
use Rattle.operation_run.specs.declared.fault.OperationFault.{OperationFault}
use Rattle.operation_run.specs.declared.fault.OperationFault.TheVariants.{Id, Agent, Sign, TransportFault, NoMemory}
use Rattle.operation_run.specs.declared.reply.Outcome.{Outcome}

-- the attempts that were answered, after those before them, sent these requests in order: each is that of its own attempt
abbrev pub AreSent : OperationParts → ConfigBag → List Round → List Round → List RequestTexts → Type 0
AreSent parts bag before [] requests = requests ≡ []
AreSent parts bag before (round ∷ rounds) [] = ⊥
AreSent parts bag before (round ∷ rounds) (request ∷ requests) =
    IsSent parts (attempt_bag bag before) round.first request × AreSent parts bag (before ++ round ∷ []) rounds requests

-- the last attempt answered with this outcome: the number of the attempts is as `attempts` has it, and the reply the last one, with its measured skew
pub record IsOutcome (bag : ConfigBag) (rounds : List Round) (outcome : Outcome) : Type 0 where
  pub number : outcome.attempts ≡ length rounds
  pub attempts : length rounds ≡ attempts bag rounds
  pub front : List Round
  pub last : Round
  pub ends : rounds ≡ front ++ last ∷ []
  pub reply : reply_texts outcome.reply ≡ answered bag last

-- the attempt of this bag ended without a reply, for the reason that the fault tells, after these moments: the test of the agent, the tests of the
-- signing at the first moment, or the transport
abbrev pub EndsAttempt : OperationParts → ConfigBag → List Instant → OperationFault → Type 0
EndsAttempt parts bag moments (Agent fault) = (moments ≡ []) × RefusesAgent bag fault
EndsAttempt parts bag moments (Sign error) = (first : Instant) × (moments ≡ first ∷ []) × RefusesSigning parts bag first error
EndsAttempt parts bag moments TransportFault =
    (first : Instant) × (sent : Instant) × (moments ≡ first ∷ sent ∷ []) × ((request : RequestTexts) × IsSent parts bag first request)
EndsAttempt parts bag moments NoMemory = length moments ≤ 2
EndsAttempt parts bag moments (Id fault) = ⊥

-- the attempts ended with an outcome, or the attempt after them, which was still to be made, stopped
abbrev pub Ends : OperationParts → ConfigBag → List Round → List Instant → Result Outcome OperationFault → Type 0
Ends parts bag rounds more (Ok outcome) = (more ≡ []) × IsOutcome bag rounds outcome
Ends parts bag rounds more (Err fault) = (length rounds < attempts bag rounds) × EndsAttempt parts (attempt_bag bag rounds) more fault

-- what was told of a transport before a call and after it, and the moments
pub record Course : Type 0 where
  pub sent_before : Option (List RequestTexts)
  pub sent_now : Option (List RequestTexts)
  pub replied_before : Option (List ReplyTexts)
  pub replied_now : Option (List ReplyTexts)
  pub moments_before : List Instant
  pub moments_now : List Instant

-- these requests were sent, these replies came, and these moments were taken, which a clock has given
pub record GoesThrough (Given : List Instant → Type 0) (course : Course) (requests : List RequestTexts) (replies : List ReplyTexts) (taken : List Instant) : Type 0 where
  pub sent : Appends course.sent_before course.sent_now requests
  pub replied : Appends course.replied_before course.replied_now replies
  pub moments : course.moments_now ≡ course.moments_before ++ taken
  pub given : Given taken

-- what the bag is after some attempts: as before them, but for the number of the last one, the skew that is known, and when the last request was sent
abbrev pub IsBagAfter : ConfigBag → List Round → ConfigBag → Type 0
IsBagAfter bag rounds now = now ≡ record (attempt_bag bag rounds) { attempts = now.attempts; time_sent = now.time_sent }

-- the attempts of an operation, from a bag on: each that was answered sent its request, and they ended so
pub record Tried (Given : List Instant → Type 0) (parts : OperationParts) (bag now : ConfigBag) (course : Course) (answer : Result Outcome OperationFault) : Type 0 where
  pub rounds : List Round
  pub requests : List RequestTexts
  pub more : List Instant
  pub are_sent : AreSent parts bag [] rounds requests
  pub goes : GoesThrough Given course requests (map (λ round. round.reply) rounds) (flat_map round_moments rounds ++ more)
  pub ends : Ends parts bag rounds more answer
  pub bag_now : IsBagAfter bag rounds now

-- the bag with the invocation's id, and the skew that a new interceptor keeps
abbrev pub begun_bag : ConfigBag → Option (List ℕ) → ConfigBag
begun_bag bag id = bag_with_kept (pos 0) (with_id bag id)

-- the generator gave an id or none, and the attempts followed; or it refused, and nothing else happened
abbrev pub Operates : (Result (Option (List ℕ)) IdFault → Type 0) → (List Instant → Type 0) → OperationParts → ConfigBag → ConfigBag → Course → Result Outcome OperationFault → Type 0
Operates Answers Given parts bag now course answer =
    ((id : Option (List ℕ)) × Answers (Ok id) × Tried Given parts (begun_bag bag id) now course answer)
    ⊎ ((fault : IdFault) × Answers (Err fault) × (answer ≡ Err (no_id fault)) × (now ≡ bag) × GoesThrough Given course [] [] [])
