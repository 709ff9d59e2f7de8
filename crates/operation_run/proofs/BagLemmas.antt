-- The bag of an attempt, which differs from the one that its definition names in the time of sending.
use Rattle.std.proofs.Common.{◌≡◌, ℕ, ℤ, Bool, true, false, List, [], ◌∷◌, ◌++◌, map, Option, Some, None, refl, ap, sym, ◌∙◌}
use Rattle.std.specs.Option.{option_or}
use Rattle.std.proofs.lemmas.List.{map-append}
use Rattle.smithy_core.specs.Moment.{Instant}
use Rattle.aws_intercept.specs.ClockSkew.{bag_with_skew, bag_with_time, is_off}
use Rattle.aws_intercept.specs.FeatureMetrics.{feature_metrics}
use Rattle.aws_intercept.specs.RequestInfo.{info_text}
use Rattle.aws_intercept.specs.declared.bag.ConfigBag.{ConfigBag}
use Rattle.aws_intercept.specs.declared.user_agent.interceptor.UserAgentFault.{UserAgentFault}
use Rattle.aws_intercept.specs.declared.user_agent.interceptor.UserAgentFault.TheVariants as agents
use Rattle.operation_run.specs.Again.{Round, attempt_bag, known_skew, own_skew, round_skew}
use Rattle.operation_run.specs.Attempt.{IsSent, OperationParts, PassesAgent, RefusesAgent, RefusesSigning}
use Rattle.operation_run.specs.Attempts.{IsBagAfter, EndsAttempt}
use Rattle.operation_run.specs.Reply.{RequestTexts}
use Rattle.operation_run.specs.declared.fault.OperationFault.{OperationFault}
use Rattle.operation_run.specs.declared.fault.OperationFault.TheVariants.{Id, Agent, Sign, TransportFault, NoMemory}

-- the bag with another time of sending
abbrev pub timed : ConfigBag → Option Instant → ConfigBag
timed bag t = record bag { time_sent = t }

-- ## What doesn't look at that

passes_untimed : (bag : ConfigBag) (t : Option Instant) → PassesAgent (timed bag t) → PassesAgent bag
unfolding feature_metrics
passes_untimed bag t passes = passes

refuses_untimed : (bag : ConfigBag) (t : Option Instant) (fault : UserAgentFault) → RefusesAgent (timed bag t) fault → RefusesAgent bag fault
unfolding feature_metrics
refuses_untimed bag t agents.MissingUserAgent refuses = refuses
refuses_untimed bag t agents.InvalidMetadataValue refuses = refuses
refuses_untimed bag t agents.InvalidHeaderValue refuses = refuses
refuses_untimed bag t agents.MissingApiMetadata refuses = absurd refuses
refuses_untimed bag t agents.NoMemory refuses = absurd refuses

module _ (parts : OperationParts) (bag : ConfigBag) (t : Option Instant) where
  pub sent_untimed : (first : Instant) (request : RequestTexts) → IsSent parts (timed bag t) first request → IsSent parts bag first request
  unfolding feature_metrics info_text
  sent_untimed first request is = record { agent = passes_untimed bag t is.agent; target = is.target; read = is.read; passed = is.passed; made = is.made }

  signing_untimed : (first : Instant) (error : _) → RefusesSigning parts (timed bag t) first error → RefusesSigning parts bag first error
  unfolding feature_metrics
  signing_untimed first error is = record { agent = passes_untimed bag t is.agent; target = is.target; read = is.read; refused = is.refused }

  pub stops_untimed : (moments : List Instant) (fault : OperationFault) → EndsAttempt parts (timed bag t) moments fault → EndsAttempt parts bag moments fault
  stops_untimed moments (Id fault) stops = absurd stops
  stops_untimed moments (Agent fault) (is, refuses) = (is, refuses_untimed bag t fault refuses)
  stops_untimed moments (Sign error) (first, is, refuses) = (first, is, signing_untimed first error refuses)
  stops_untimed moments TransportFault (first, sent, is, was) = (first, sent, is, (was.0, sent_untimed first was.0 was.1))
  stops_untimed moments NoMemory stops = stops

-- ## The skew

-- none is measured where the correction is disabled
skew_off : (bag : ConfigBag) (round : Round) → is_off bag ≡ true → round_skew bag round ≡ None
skew_off bag round is = let same : bag_with_time round.sent bag ≡ bag = rw is refl in rw (same, is) refl

-- where it isn't, the skew is the round's own
pub skew_on : (bag : ConfigBag) (round : Round) → is_off bag ≡ false → round_skew bag round ≡ own_skew round
skew_on bag round is = let same : bag_with_time round.sent bag ≡ record bag { time_sent = Some round.sent } = rw is refl in rw (same, is) refl

-- the skew of a reply looks at no more of a bag than whether the correction is disabled
pub same_skew : (bag : ConfigBag) (number : Option ℕ) (skew : Option ℤ) (t : Option Instant) (round : Round)
    → round_skew (record bag { attempts = number; attempt_skew = skew; time_sent = t }) round ≡ round_skew bag round
same_skew bag number skew t round = by_off (is_off bag) refl
  where
    by_off : (off : Bool) → is_off bag ≡ off → round_skew (record bag { attempts = number; attempt_skew = skew; time_sent = t }) round ≡ round_skew bag round
    by_off true is = skew_off (record bag { attempts = number; attempt_skew = skew; time_sent = t }) round is ∙ sym (skew_off bag round is)
    by_off false is = skew_on (record bag { attempts = number; attempt_skew = skew; time_sent = t }) round is ∙ sym (skew_on bag round is)

-- one skew more
known_more : (before : Option ℤ) (skews : List (Option ℤ)) (skew : Option ℤ) → known_skew before (skews ++ skew ∷ []) ≡ option_or skew (known_skew before skews)
known_more before [] skew = refl
known_more before (other ∷ skews) skew = known_more (option_or other before) skews skew

-- the bag with a time of sending and a skew, where there is one
with_both : (bag : ConfigBag) (sent : Instant) (skew : Option ℤ)
    → let now = bag_with_skew skew (bag_with_time sent bag) in now ≡ record bag { attempts = now.attempts; attempt_skew = option_or skew bag.attempt_skew; time_sent = now.time_sent }
with_both bag sent skew = by_off (is_off bag) refl skew
  where
    by_off : (off : Bool) → is_off bag ≡ off → (skew : Option ℤ)
        → let now = bag_with_skew skew (bag_with_time sent bag) in now ≡ record bag { attempts = now.attempts; attempt_skew = option_or skew bag.attempt_skew; time_sent = now.time_sent }
    by_off true is None = rw is refl
    by_off true is (Some skew) = rw is refl
    by_off false is None = rw is refl
    by_off false is (Some skew) = rw is refl

-- the bag after one attempt more
pub bag_more : (bag : ConfigBag) (rounds : List Round) (t : Option Instant) (round : Round) (now : ConfigBag) → let own = timed (attempt_bag bag rounds) t in
    now ≡ bag_with_skew (round_skew own round) (bag_with_time round.sent own) → IsBagAfter bag (rounds ++ round ∷ []) now
bag_more bag rounds t round now is =
    let own = timed (attempt_bag bag rounds) t in
    let skew : round_skew own round ≡ round_skew bag round = same_skew bag own.attempts own.attempt_skew t round in
    let known : known_skew bag.attempt_skew (map (round_skew bag) (rounds ++ round ∷ [])) ≡ option_or (round_skew own round) own.attempt_skew =
    ap (known_skew bag.attempt_skew) (map-append (round_skew bag) rounds (round ∷ [])) ∙ known_more bag.attempt_skew (map (round_skew bag) rounds) (round_skew bag round)
    ∙ ap (λ s. option_or s own.attempt_skew) (sym skew) in
    let both = with_both own round.sent (round_skew own round) in
    rw known (rw is both)
