-- What an operation over listed replies promises, all of whose moments are the same.
use Rattle.std.specs.Prelude.{◌≡◌, ℕ, ◌<◌, ◌≤◌, List, [], codes, length, take, Some, Result, Ok, Err, pos}
use Rattle.smithy_core.specs.Moment.{Instant}
use Rattle.aws_intercept.specs.Agent.{agent_for_tests}
use Rattle.aws_intercept.specs.Bag.{IsEmptyBag}
use Rattle.aws_intercept.specs.declared.bag.ConfigBag.{ConfigBag}
use Rattle.operation_run.specs.Again.{Round, attempt_bag, attempts}
use Rattle.operation_run.specs.Attempt.{IsSent, OperationParts, RefusesSigning}
use Rattle.operation_run.specs.Attempts.{AreSent}
use Rattle.operation_run.specs.Reply.{RequestTexts}
use Rattle.operation_run.specs.declared.fault.OperationFault.{OperationFault}
use Rattle.operation_run.specs.declared.fault.OperationFault.TheVariants.{Id, Agent, Sign, TransportFault, NoMemory}
use Rattle.operation_run.specs.declared.reply.Outcome.{Outcome}

-- the bag before the operation: the standard retries, the agent for tests, and nothing else
pub record IsFirstBag (bag : ConfigBag) : Type 0 where
  pub empty : ConfigBag
  pub is_empty : IsEmptyBag empty
  pub made : bag ≡ record empty { retry = Some (record { max_attempts = 3 }); user_agent = Some agent_for_tests }

-- the bag as the attempts begin: that with the id `invocation-1`, and no skew yet
pub record IsBegunBag (bag : ConfigBag) : Type 0 where
  pub empty : ConfigBag
  pub is_empty : IsEmptyBag empty
  pub made : bag ≡ record empty {
    retry = Some (record { max_attempts = 3 });
    attempt_skew = Some (pos 0);
    user_agent = Some agent_for_tests;
    invocation_id = Some (codes "invocation-1");
  }

-- how the attempts ended of which so many were answered: by an outcome, or in the next attempt
abbrev pub EndsOver : OperationParts → ConfigBag → Instant → List Round → ℕ → Result Outcome OperationFault → Type 0
EndsOver parts bag at rounds count (Ok outcome) = (outcome.attempts ≡ count) × (count ≡ attempts bag rounds)
EndsOver parts bag at rounds count (Err TransportFault) =
    (count ≡ length rounds) × (count < attempts bag rounds) × ((request : RequestTexts) × IsSent parts (attempt_bag bag (take count rounds)) at request)
EndsOver parts bag at rounds count (Err (Sign error)) = (count < attempts bag rounds) × RefusesSigning parts (attempt_bag bag (take count rounds)) at error
EndsOver parts bag at rounds count (Err (Agent fault)) = ⊥
EndsOver parts bag at rounds count (Err (Id fault)) = ⊥
EndsOver parts bag at rounds count (Err NoMemory) = Unit {0}

-- the attempts that were answered sent these requests, and they ended so
pub record Over (parts : OperationParts) (at : Instant) (rounds : List Round) (sent : List RequestTexts) (answer : Result Outcome OperationFault) : Type 0 where
  pub bag : ConfigBag
  pub begun : IsBegunBag bag
  pub count : ℕ
  pub within : count ≤ length rounds
  pub are_sent : AreSent parts bag [] (take count rounds) sent
  pub ends : EndsOver parts bag at rounds count answer

-- unless memory ran out
abbrev pub GoesOver : OperationParts → Instant → List Round → List RequestTexts → Result Outcome OperationFault → Type 0
GoesOver parts at rounds sent (Err NoMemory) = Unit {0}
GoesOver parts at rounds sent answer = Over parts at rounds sent answer
