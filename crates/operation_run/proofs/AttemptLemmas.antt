-- One attempt: what it prepares, and then what it sends.
use Rattle.std.proofs.Common.{◌≡◌, Bool, true, false, List, [], ◌∷◌, ◌++◌, Option, refl, ap, arith, sym, ◌∙◌}
use Rattle.std.specs.Prelude.{Result, Ok, Err}
use Rattle.std.proofs.lemmas.List.{append-nil, append_assoc}
use Rattle.smithy_core.specs.Moment.{Instant}
use Rattle.aws_intercept.specs.ClockSkew.{bag_with_time, is_off}
use Rattle.aws_intercept.specs.declared.bag.ConfigBag.{ConfigBag}
use Rattle.operation_run.specs.Attempt.{IsSent, OperationParts}
use Rattle.operation_run.specs.Attempts.{GoesThrough, EndsAttempt}
use Rattle.operation_run.specs.Reply.{ReplyTexts, RequestTexts}
use Rattle.operation_run.specs.Steps.{Exchanged, Exchanges, IsAnswered, IsStopped, TakesEach, TriesOnce}
use Rattle.operation_run.specs.declared.fault.OperationFault.{OperationFault}
use Rattle.operation_run.specs.declared.fault.OperationFault.TheVariants.{Id, Agent, Sign, TransportFault, NoMemory}
use Rattle.operation_run.specs.declared.reply.Reply.{Reply}
use Rattle.operation_run.proofs.CourseLemmas.{appends_none}
use Rattle.operation_run.proofs.OperationLemmas.{over}

-- the bag with a time of sending
timed_bag : (bag : ConfigBag) (sent : Instant) → let now = bag_with_time sent bag in now ≡ record bag { attempts = now.attempts; time_sent = now.time_sent }
timed_bag bag sent = by_off (is_off bag) refl
  where
    by_off : (off : Bool) → is_off bag ≡ off → let now = bag_with_time sent bag in now ≡ record bag { attempts = now.attempts; time_sent = now.time_sent }
    by_off true is = rw is refl
    by_off false is = rw is refl

module _ (G H K : List Instant → Type 0) (join : (m n : List Instant) → G m → H n → K (m ++ n)) (parts : OperationParts) (bag now : ConfigBag)
    (sa sb : Option (List RequestTexts)) (ra rb : Option (List ReplyTexts)) (ma mb mc : List Instant) (first : Instant) (request : RequestTexts)
    (took : TakesEach G ma mb (first ∷ [])) (is_sent : IsSent parts bag first request) where
  -- the moments of both
  both_goes : (requests : List RequestTexts) (replies : List ReplyTexts) (later : List Instant) → GoesThrough H (over sa sb ra rb mb mc) requests replies later
      → GoesThrough K (over sa sb ra rb ma mc) requests replies (first ∷ later)
  both_goes requests replies later goes = record {
    sent = goes.sent;
    replied = goes.replied;
    moments = goes.moments ∙ ap (λ m. m ++ later) took.moments ∙ append_assoc ma (first ∷ []) later;
    given = join (first ∷ []) later took.given goes.given;
  }

  answered_both : (reply : Reply) → Exchanged H bag now (over sa sb ra rb mb mc) request reply → IsAnswered K parts bag now (over sa sb ra rb ma mc) reply
  answered_both reply was = record {
    round = record { first = first; sent = was.sent; received = was.received; reply = was.given_reply };
    request = request;
    is_sent = is_sent;
    goes = both_goes (request ∷ []) (was.given_reply ∷ []) (was.sent ∷ was.received ∷ []) was.goes;
    reply_is = was.reply_is;
    bag_is = was.bag_is;
  }

  stopped_by : (fault : OperationFault) (sent : Instant) → GoesThrough H (over sa sb ra rb mb mc) [] [] (sent ∷ []) → now ≡ bag_with_time sent bag → EndsAttempt parts bag (first ∷ sent ∷ []) fault
      → IsStopped K parts bag now (over sa sb ra rb ma mc) fault
  stopped_by fault sent goes is stops = record {
    more = first ∷ sent ∷ [];
    goes = both_goes [] [] (sent ∷ []) goes;
    stops = stops;
    bag_is = rw is (timed_bag bag sent);
  }

  -- what was prepared is sent
  pub tries_both : (answer : Result Reply OperationFault) → Exchanges H bag now (over sa sb ra rb mb mc) request answer → TriesOnce K parts bag now (over sa sb ra rb ma mc) answer
  tries_both (Ok reply) was = answered_both reply was
  tries_both (Err TransportFault) was = stopped_by TransportFault was.sent was.goes was.bag_is (first, was.sent, refl, (request, is_sent))
  tries_both (Err NoMemory) was = stopped_by NoMemory was.sent was.goes was.bag_is (omega arith)
  tries_both (Err (Id fault)) was = absurd was.fault_is
  tries_both (Err (Agent fault)) was = absurd was.fault_is
  tries_both (Err (Sign error)) was = absurd was.fault_is

-- memory ran out at once
pub stopped_at_once : (G : List Instant → Type 0) (parts : OperationParts) (bag now : ConfigBag) (sent : Option (List RequestTexts)) (replied : Option (List ReplyTexts)) (before moments : List Instant)
    → G [] → moments ≡ before → now ≡ record bag { attempts = now.attempts; time_sent = now.time_sent } → IsStopped G parts bag now (over sent sent replied replied before moments) NoMemory
stopped_at_once G parts bag now sent replied before moments given same is = record {
  more = [];
  goes = record { sent = appends_none sent; replied = appends_none replied; moments = same ∙ sym (append-nil before); given = given };
  stops = omega arith;
  bag_is = is;
}
