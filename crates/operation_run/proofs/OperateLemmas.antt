-- What comes before the attempts of an operation.
use Rattle.std.proofs.Common.{◌≡◌, ◌≤◌, ℕ, Bool, true, false, List, [], Option, Some, None, refl, arith, sym}
use Rattle.std.specs.Prelude.{Err}
use Rattle.std.proofs.lemmas.List.{append-nil}
use Rattle.smithy_core.specs.Moment.{Instant}
use Rattle.aws_intercept.specs.ClockSkew.{is_off}
use Rattle.aws_intercept.specs.declared.bag.ConfigBag.{ConfigBag}
use Rattle.operation_run.specs.Again.{most_attempts}
use Rattle.operation_run.specs.Attempt.{OperationParts}
use Rattle.operation_run.specs.Attempts.{Tried, begun_bag}
use Rattle.operation_run.specs.Reply.{ReplyTexts, RequestTexts}
use Rattle.operation_run.specs.declared.fault.OperationFault.TheVariants.{NoMemory}
use Rattle.operation_run.proofs.CourseLemmas.{appends_none}
use Rattle.operation_run.proofs.OperationLemmas.{over}

-- neither the id nor the skew changes how often the operation is tried
pub same_most : (bag : ConfigBag) (id : Option (List ℕ)) → most_attempts (begun_bag bag id) ≡ most_attempts bag
same_most bag id = by_off id (is_off bag) refl
  where
    by_off : (id : Option (List ℕ)) (off : Bool) → is_off bag ≡ off → most_attempts (begun_bag bag id) ≡ most_attempts bag
    by_off None true is = rw is refl
    by_off None false is = rw is refl
    by_off (Some id) true is = rw is refl
    by_off (Some id) false is = rw is refl

-- memory ran out before the first attempt
pub no_attempt : (G : List Instant → Type 0) (parts : OperationParts) (bag now : ConfigBag) (sent : Option (List RequestTexts)) (replied : Option (List ReplyTexts)) (moments : List Instant)
    → G [] → 1 ≤ most_attempts bag → now ≡ bag → Tried G parts bag now (over sent sent replied replied moments moments) (Err NoMemory)
no_attempt G parts bag now sent replied moments given most is = record {
  rounds = [];
  requests = [];
  more = [];
  are_sent = refl;
  goes = record { sent = appends_none sent; replied = appends_none replied; moments = sym (append-nil moments); given = given };
  ends = (omega (arith, most), omega arith);
  bag_now = rw is refl;
}
