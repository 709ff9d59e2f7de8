-- The attempts of an operation, one after the other.
use Rattle.std.proofs.Common.{◌≡◌, ℕ, ◌+◌, ◌<◌, ◌≤◌, ◌⊎◌, inl, inr, ℤ, Bool, true, false, List, [], ◌∷◌, ◌++◌, flat_map, length, map, min, Option, Some, refl, ap, arith, sym, subst, ◌∙◌}
use Rattle.std.specs.Prelude.{Ok, Err}
use Rattle.std.specs.Prelude.{if◌then◌else◌}
use Rattle.std.proofs.lemmas.List.{append-nil, append_assoc, length_push, map-append}
use Rattle.std.proofs.lemmas.List.Concat.{flat_map-append}
use Rattle.smithy_core.specs.Moment.{Instant}
use Rattle.aws_intercept.specs.ClockSkew.{response_with_skew}
use Rattle.aws_intercept.specs.declared.bag.ConfigBag.{ConfigBag}
use Rattle.operation_run.specs.Again.{Round, is_again, answered, attempt_bag, attempts, is_worth_more, leading, most_attempts, round_moments}
use Rattle.operation_run.specs.Attempt.{IsSent, OperationParts}
use Rattle.operation_run.specs.Attempts.{AreSent, Course, GoesThrough, IsBagAfter, Tried}
use Rattle.operation_run.specs.Reply.{ReplyTexts, RequestTexts, reply_texts}
use Rattle.operation_run.specs.Steps.{Going, IsAnswered, IsStopped}
use Rattle.operation_run.specs.declared.fault.OperationFault.{OperationFault}
use Rattle.operation_run.specs.declared.reply.Outcome.{Outcome}
use Rattle.operation_run.specs.declared.reply.Reply.{Reply}
use Rattle.operation_run.proofs.AgainLemmas.{leading_more, leading_within}
use Rattle.operation_run.proofs.BagLemmas.{bag_more, same_skew, sent_untimed, stops_untimed, timed}
use Rattle.operation_run.proofs.CourseLemmas.{appends_none, appends_twice}

-- one request more
sent_more : (parts : OperationParts) (bag : ConfigBag) (before rounds : List Round) (requests : List RequestTexts) (round : Round) (request : RequestTexts)
    → AreSent parts bag before rounds requests → IsSent parts (attempt_bag bag (before ++ rounds)) round.first request
    → AreSent parts bag before (rounds ++ round ∷ []) (requests ++ request ∷ [])
sent_more parts bag before [] requests round request none is =
    let own : IsSent parts (attempt_bag bag before) round.first request = rw (append-nil before) at is in rw none (own, refl)
sent_more parts bag before (first ∷ rounds) [] round request sent is = absurd sent
sent_more parts bag before (first ∷ rounds) (other ∷ requests) round request (own, sent) is =
    (own, sent_more parts bag (before ++ first ∷ []) rounds requests round request sent (rw (append_assoc before (first ∷ []) rounds) is))

-- a transport and moments before and after
abbrev pub over : Option (List RequestTexts) → Option (List RequestTexts) → Option (List ReplyTexts) → Option (List ReplyTexts) → List Instant → List Instant → Course
over sent_before sent_now replied_before replied_now moments_before moments_now = record {
  sent_before = sent_before;
  sent_now = sent_now;
  replied_before = replied_before;
  replied_now = replied_now;
  moments_before = moments_before;
  moments_now = moments_now;
}

module _ (G H K : List Instant → Type 0) (join : (m n : List Instant) → G m → H n → K (m ++ n))
    (sa sb sc : Option (List RequestTexts)) (ra rb rc : Option (List ReplyTexts)) (ma mb mc : List Instant) where
  -- what went out and came, and then more
  pub goes_twice : (q1 q2 : List RequestTexts) (p1 p2 : List ReplyTexts) (m1 m2 : List Instant) → GoesThrough G (over sa sb ra rb ma mb) q1 p1 m1 → GoesThrough H (over sb sc rb rc mb mc) q2 p2 m2
      → GoesThrough K (over sa sc ra rc ma mc) (q1 ++ q2) (p1 ++ p2) (m1 ++ m2)
  goes_twice q1 q2 p1 p2 m1 m2 first second = record {
    sent = appends_twice sa sb sc q1 q2 first.sent second.sent;
    replied = appends_twice ra rb rc p1 p2 first.replied second.replied;
    moments = second.moments ∙ ap (λ m. m ++ m2) first.moments ∙ append_assoc ma m1 m2;
    given = join m1 m2 first.given second.given;
  }

  module _ (parts : OperationParts) (bag mid now : ConfigBag) (number : ℕ) where
    -- the bag of the attempt that is to be made
    own_bag : (going : Going G parts bag mid (over sa sb ra rb ma mb) number) → record mid { attempts = Some number } ≡ timed (attempt_bag bag going.rounds) mid.time_sent
    own_bag going =
        let numbered : ConfigBag → ConfigBag = λ m. record m { attempts = Some number } in
        let counted : ℕ → ConfigBag = λ n. record (attempt_bag bag going.rounds) { attempts = Some n; time_sent = mid.time_sent } in
        ap numbered going.bag_is ∙ ap counted going.number_is

    -- all attempts so far were worth one more
    all_again : (going : Going G parts bag mid (over sa sb ra rb ma mb) number) → leading (is_again bag) going.rounds ≡ length going.rounds
    all_again going = let within = leading_within (is_again bag) going.rounds in let still = going.still in omega (arith, within, still)

    pub record Behind (going : Going G parts bag mid (over sa sb ra rb ma mb) number) (reply : Reply) : Type 0 where
      pub round : Round
      pub request : RequestTexts
      pub are_sent : AreSent parts bag [] (going.rounds ++ round ∷ []) (going.requests ++ request ∷ [])
      pub goes : GoesThrough K (over sa sc ra rc ma mc) (going.requests ++ request ∷ []) (map (λ r. r.reply) (going.rounds ++ round ∷ [])) (flat_map round_moments (going.rounds ++ round ∷ []))
      pub reply_is : reply_texts reply ≡ answered bag round
      pub bag_is : IsBagAfter bag (going.rounds ++ round ∷ []) now

    -- an attempt more
    pub behind : (going : Going G parts bag mid (over sa sb ra rb ma mb) number) (reply : Reply)
        → IsAnswered H parts (record mid { attempts = Some number }) now (over sb sc rb rc mb mc) reply → Behind going reply
    behind going reply was =
        let own = timed (attempt_bag bag going.rounds) mid.time_sent in
        let is : IsAnswered H parts own now (over sb sc rb rc mb mc) reply =
        subst (λ b. IsAnswered H parts b now (over sb sc rb rc mb mc) reply) (own_bag going) was in
        let measured : Option ℤ → ReplyTexts = λ skew. record is.round.reply { response = response_with_skew skew is.round.reply.response } in
        record {
          round = is.round;
          request = is.request;
          are_sent = sent_more parts bag [] going.rounds going.requests is.round is.request going.are_sent
              (sent_untimed parts (attempt_bag bag going.rounds) mid.time_sent is.round.first is.request is.is_sent);
          goes = rw (map-append (λ (r : Round). r.reply) going.rounds (is.round ∷ []), flat_map-append round_moments going.rounds (is.round ∷ []))
              (goes_twice going.requests (is.request ∷ []) (map (λ r. r.reply) going.rounds) (is.round.reply ∷ []) (flat_map round_moments going.rounds) (round_moments is.round) going.goes is.goes);
          reply_is = is.reply_is ∙ ap measured (same_skew bag own.attempts own.attempt_skew own.time_sent is.round);
          bag_is = bag_more bag going.rounds mid.time_sent is.round now is.bag_is;
        }

    -- an attempt that is worth one more
    pub goes_on : (going : Going G parts bag mid (over sa sb ra rb ma mb) number) (reply : Reply)
        → IsAnswered H parts (record mid { attempts = Some number }) now (over sb sc rb rc mb mc) reply
        → is_worth_more (reply_texts reply) ≡ true → number < most_attempts bag
        → Going K parts bag now (over sa sc ra rc ma mc) (number + 1)
    goes_on going reply was worth below =
        let it = behind going reply was in
        let longer = length_push going.rounds it.round in
        let so : is_again bag it.round ≡ true = sym (ap is_worth_more it.reply_is) ∙ worth in
        let ahead : leading (is_again bag) (going.rounds ++ it.round ∷ []) ≡ length going.rounds + 1 = (let more = leading_more (is_again bag) going.rounds it.round (all_again going) in rw so at more) in
        let count = going.number_is in
        record {
          rounds = going.rounds ++ it.round ∷ [];
          requests = going.requests ++ it.request ∷ [];
          number_is = rw (longer, count) refl;
          are_sent = it.are_sent;
          goes = it.goes;
          still = rw (longer, ahead) (omega (arith, below, count));
          bag_is = it.bag_is;
        }

    -- the last attempt
    pub ends_with : (going : Going G parts bag mid (over sa sb ra rb ma mb) number) (outcome : Outcome)
        → IsAnswered H parts (record mid { attempts = Some number }) now (over sb sc rb rc mb mc) outcome.reply
        → outcome.attempts ≡ number → ((is_worth_more (reply_texts outcome.reply) ≡ false) ⊎ (number ≡ most_attempts bag))
        → Tried K parts bag now (over sa sc ra rc ma mc) (Ok outcome)
    ends_with going outcome was counted last =
        let it = behind going outcome.reply was in
        let longer = length_push going.rounds it.round in
        let count = going.number_is in
        let still = going.still in
        let all = all_again going in
        let more = leading_more (is_again bag) going.rounds it.round all in
        record {
          rounds = going.rounds ++ it.round ∷ [];
          requests = going.requests ++ it.request ∷ [];
          more = [];
          are_sent = it.are_sent;
          goes = rw (append-nil (flat_map round_moments (going.rounds ++ it.round ∷ []))) it.goes;
          ends = (
            refl,
            record {
              number = counted ∙ count ∙ sym longer;
              attempts = rw (longer, more) (by_last it.round it.reply_is last count still all);
              front = going.rounds;
              last = it.round;
              ends = refl;
              reply = it.reply_is;
            },
          );
          bag_now = it.bag_is;
        }
      where
        by_worth : (worth : Bool) → length going.rounds < min (most_attempts bag) (length going.rounds + 1)
            → ((worth ≡ false) ⊎ (number ≡ most_attempts bag)) → number ≡ length going.rounds + 1
            → length going.rounds + 1 ≡ min (most_attempts bag) (length going.rounds + (if worth then 1 else 0) + 1)
        by_worth true still (inl less) count = cc
        by_worth true still (inr most) count = omega (arith, still, most, count)
        by_worth false still last count = omega (arith, still)

        own_end : (round : Round) → reply_texts outcome.reply ≡ answered bag round → ((is_worth_more (reply_texts outcome.reply) ≡ false) ⊎ (number ≡ most_attempts bag))
            → ((is_again bag round ≡ false) ⊎ (number ≡ most_attempts bag))
        own_end round reply_is (inl less) = inl (sym (ap is_worth_more reply_is) ∙ less)
        own_end round reply_is (inr most) = inr most

        by_last : (round : Round) → reply_texts outcome.reply ≡ answered bag round → ((is_worth_more (reply_texts outcome.reply) ≡ false) ⊎ (number ≡ most_attempts bag))
            → number ≡ length going.rounds + 1 → length going.rounds < attempts bag going.rounds → leading (is_again bag) going.rounds ≡ length going.rounds
            → length going.rounds + 1 ≡ min (most_attempts bag) (length going.rounds + (if is_again bag round then 1 else 0) + 1)
        by_last round reply_is last count still all =
            let less : length going.rounds < min (most_attempts bag) (length going.rounds + 1) = rw all at still in
            by_worth (is_again bag round) less (own_end round reply_is last) count

    -- an attempt that stopped
    pub ends_without : (going : Going G parts bag mid (over sa sb ra rb ma mb) number) (fault : OperationFault)
        → IsStopped H parts (record mid { attempts = Some number }) now (over sb sc rb rc mb mc) fault
        → Tried K parts bag now (over sa sc ra rc ma mc) (Err fault)
    ends_without going fault was =
        let own = timed (attempt_bag bag going.rounds) mid.time_sent in
        let is : IsStopped H parts own now (over sb sc rb rc mb mc) fault =
        subst (λ b. IsStopped H parts b now (over sb sc rb rc mb mc) fault) (own_bag going) was in
        let both = goes_twice going.requests [] (map (λ r. r.reply) going.rounds) [] (flat_map round_moments going.rounds) is.more going.goes is.goes in
        record {
          rounds = going.rounds;
          requests = going.requests;
          more = is.more;
          are_sent = going.are_sent;
          goes = rw (append-nil going.requests, append-nil (map (λ (r : Round). r.reply) going.rounds)) at both;
          ends = (going.still, stops_untimed parts (attempt_bag bag going.rounds) mid.time_sent is.more fault is.stops);
          bag_now = is.bag_is;
        }

-- no attempt yet
pub going_start : (G : List Instant → Type 0) (parts : OperationParts) (bag : ConfigBag) (sent : Option (List RequestTexts)) (replied : Option (List ReplyTexts)) (moments : List Instant)
    → G [] → 1 ≤ most_attempts bag → Going G parts bag bag (over sent sent replied replied moments moments) 1
going_start G parts bag sent replied moments given most = record {
  rounds = [];
  requests = [];
  number_is = refl;
  are_sent = refl;
  goes = record { sent = appends_none sent; replied = appends_none replied; moments = sym (append-nil moments); given = given };
  still = omega (arith, most);
  bag_is = refl;
}
