-- What carries the proof of an operation: what its own steps promise. No public call speaks of it.
use Rattle.std.specs.Prelude.{◌≡◌, ℕ, ◌+◌, ◌<◌, List, [], ◌∷◌, ◌++◌, flat_map, length, map, Option, Some, None, Result, Ok, Err, string_bytes}
use Rattle.smithy_core.specs.Moment.{Instant}
use Rattle.smithy_core.specs.declared.identity.Identity.{Identity}
use Rattle.smithy_core.specs.declared.request.HttpRequest.{HttpRequest}
use Rattle.smithy_http.specs.Target.{Target}
use Rattle.sigv4.specs.Signed.{signed_headers, signed_target}
use Rattle.aws_auth.specs.Inputs.{chosen, chosen_case}
use Rattle.aws_auth.specs.Signer.{SpellsAs, refusal_before_override, refusal_before_target, signing_refusal}
use Rattle.aws_auth.specs.declared.inputs.SigningInputs.{SigningInputs}
use Rattle.aws_intercept.specs.ClockSkew.{bag_with_skew, bag_with_time, measured, response_with_skew}
use Rattle.aws_intercept.specs.Recursion.{traced}
use Rattle.aws_intercept.specs.declared.bag.ConfigBag.{ConfigBag}
use Rattle.operation_run.specs.Again.{Round, answered, attempts, round_moments, round_skew}
use Rattle.operation_run.specs.Attempt.{IsSent, OperationParts, PassesAgent, RefusesAgent, with_bag_agent}
use Rattle.operation_run.specs.Attempts.{AreSent, Course, GoesThrough, IsBagAfter, EndsAttempt}
use Rattle.operation_run.specs.Reply.{ReplyTexts, RequestTexts, reply_texts}
use Rattle.operation_run.specs.declared.attempt.Operation.{Operation}
use Rattle.operation_run.specs.declared.fault.OperationFault.{OperationFault}
use Rattle.operation_run.specs.declared.fault.OperationFault.TheVariants.{Agent, Sign, TransportFault, NoMemory}
use Rattle.operation_run.specs.declared.reply.Reply.{Reply}

-- what an operation is given
abbrev pub operation_parts : Operation → OperationParts
operation_parts operation = record { request = operation.request.now; identity = operation.identity.now; inputs = operation.inputs; env = operation.trace }

-- the headers are those of the dressed request, or the first test of the agent that fails, or memory ran out
abbrev pub Dresses : List (List ℕ × List ℕ) → ConfigBag → List (List ℕ × List ℕ) → List (List ℕ × List ℕ) → Result (Unit {0}) OperationFault → Type 0
Dresses env bag old new (Ok _) = PassesAgent bag × (new ≡ with_bag_agent bag (traced env old))
Dresses env bag old new (Err (Agent fault)) = RefusesAgent bag fault
Dresses env bag old new (Err NoMemory) = Unit {0}
Dresses env bag old new (Err _) = ⊥

-- the request is signed, or the first test that fails, or memory ran out
abbrev pub SignsAt : Identity → SigningInputs → Instant → HttpRequest → HttpRequest → Result (Unit {0}) OperationFault → Type 0
SignsAt identity inputs now old new (Ok _) =
    (target : Target) × SpellsAs (string_bytes old.target) (Some target) × (signing_refusal old identity inputs now (Ok None) (Some target) ≡ None)
    × (new.headers ≡ signed_headers (chosen_case old identity (chosen inputs now) None target))
    × (string_bytes new.target ≡ signed_target (chosen_case old identity (chosen inputs now) None target) (string_bytes old.target))
SignsAt identity inputs now old new (Err (Sign error)) =
    (target : Option Target)
    × (refusal_before_override identity inputs ≡ None → refusal_before_target (chosen inputs now) (Ok None) ≡ None → SpellsAs (string_bytes old.target) target)
    × (signing_refusal old identity inputs now (Ok None) target ≡ Some error)
SignsAt identity inputs now old new (Err NoMemory) = Unit {0}
SignsAt identity inputs now old new (Err _) = ⊥

-- an attempt stopped before its request was sent
abbrev pub StopsUnsent : OperationParts → ConfigBag → List Instant → OperationFault → Type 0
StopsUnsent parts bag moments TransportFault = ⊥
StopsUnsent parts bag moments fault = EndsAttempt parts bag moments fault

-- these moments were taken, which a clock has given
pub record TakesEach (Given : List Instant → Type 0) (before now taken : List Instant) : Type 0 where
  pub moments : now ≡ before ++ taken
  pub given : Given taken

-- the request is the one that the attempt sends, or the attempt stopped
abbrev pub Prepares : (List Instant → Type 0) → OperationParts → ConfigBag → List Instant → List Instant → RequestTexts → Result (Unit {0}) OperationFault → Type 0
Prepares Given parts bag before now request (Ok _) = (first : Instant) × TakesEach Given before now (first ∷ []) × IsSent parts bag first request
Prepares Given parts bag before now request (Err fault) = (more : List Instant) × TakesEach Given before now more × StopsUnsent parts bag more fault

-- a request was sent, and its reply came, with the skew that was measured
pub record Exchanged (Given : List Instant → Type 0) (bag bag_now : ConfigBag) (course : Course) (request : RequestTexts) (reply : Reply) : Type 0 where
  pub sent : Instant
  pub received : Instant
  pub given_reply : ReplyTexts
  pub goes : GoesThrough Given course (request ∷ []) (given_reply ∷ []) (sent ∷ received ∷ [])
  pub reply_is : let skew = measured (bag_with_time sent bag) given_reply.response.headers received in
      reply_texts reply ≡ record given_reply { response = response_with_skew skew given_reply.response }
  pub bag_is : bag_now ≡ bag_with_skew (measured (bag_with_time sent bag) given_reply.response.headers received) (bag_with_time sent bag)

-- the faults of a transport
abbrev pub IsOfTransport : OperationFault → Type 0
IsOfTransport TransportFault = Unit {0}
IsOfTransport NoMemory = Unit {0}
IsOfTransport _ = ⊥

-- no reply came
pub record NotExchanged (Given : List Instant → Type 0) (bag bag_now : ConfigBag) (course : Course) (fault : OperationFault) : Type 0 where
  pub sent : Instant
  pub goes : GoesThrough Given course [] [] (sent ∷ [])
  pub fault_is : IsOfTransport fault
  pub bag_is : bag_now ≡ bag_with_time sent bag

-- a request was sent and its reply came, or none did
abbrev pub Exchanges : (List Instant → Type 0) → ConfigBag → ConfigBag → Course → RequestTexts → Result Reply OperationFault → Type 0
Exchanges Given bag bag_now course request (Ok reply) = Exchanged Given bag bag_now course request reply
Exchanges Given bag bag_now course request (Err fault) = NotExchanged Given bag bag_now course fault

-- an attempt was answered
pub record IsAnswered (Given : List Instant → Type 0) (parts : OperationParts) (bag bag_now : ConfigBag) (course : Course) (reply : Reply) : Type 0 where
  pub round : Round
  pub request : RequestTexts
  pub is_sent : IsSent parts bag round.first request
  pub goes : GoesThrough Given course (request ∷ []) (round.reply ∷ []) (round_moments round)
  pub reply_is : reply_texts reply ≡ answered bag round
  pub bag_is : bag_now ≡ bag_with_skew (round_skew bag round) (bag_with_time round.sent bag)

-- an attempt stopped
pub record IsStopped (Given : List Instant → Type 0) (parts : OperationParts) (bag bag_now : ConfigBag) (course : Course) (fault : OperationFault) : Type 0 where
  pub more : List Instant
  pub goes : GoesThrough Given course [] [] more
  pub stops : EndsAttempt parts bag more fault
  pub bag_is : bag_now ≡ record bag { attempts = bag_now.attempts; time_sent = bag_now.time_sent }

-- one attempt
abbrev pub TriesOnce : (List Instant → Type 0) → OperationParts → ConfigBag → ConfigBag → Course → Result Reply OperationFault → Type 0
TriesOnce Given parts bag bag_now course (Ok reply) = IsAnswered Given parts bag bag_now course reply
TriesOnce Given parts bag bag_now course (Err fault) = IsStopped Given parts bag bag_now course fault

-- the attempts so far, behind which the one of this number is to be made
pub record Going (Given : List Instant → Type 0) (parts : OperationParts) (bag bag_now : ConfigBag) (course : Course) (number : ℕ) : Type 0 where
  pub rounds : List Round
  pub requests : List RequestTexts
  pub number_is : number ≡ length rounds + 1
  pub are_sent : AreSent parts bag [] rounds requests
  pub goes : GoesThrough Given course requests (map (λ round. round.reply) rounds) (flat_map round_moments rounds)
  pub still : length rounds < attempts bag rounds
  pub bag_is : IsBagAfter bag rounds bag_now
