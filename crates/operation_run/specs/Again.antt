-- Whether an operation is tried once more after a reply, and how often it is tried.
use Rattle.std.specs.Prelude.{ℕ, ◌+◌, Bool, ◌||◌, ◌&&◌, List, [], ◌∷◌, codes, length, map, min, ℤ, Option, Some, None, if◌then◌else◌, is_some, option_and_then}
use Rattle.std.specs.Option.{option_map_or, option_or}
use Rattle.httpdate.specs.Date.{parse_secs}
use Rattle.smithy_core.specs.Moment.{Instant}
use Rattle.smithy_core.specs.TextPairs.{first_value}
use Rattle.aws_intercept.specs.Classify.{is_skew_error, is_skewed, kind_of, transient_codes}
use Rattle.aws_intercept.specs.ClockSkew.{bag_with_time, measured, response_with_skew, skew_at}
use Rattle.aws_intercept.specs.declared.bag.ConfigBag.{ConfigBag}
use Rattle.operation_run.specs.Reply.{ReplyTexts, reply_code}

-- an attempt that was answered: the moments at which its request was signed and sent and its reply came, and the reply as the transport gave it
pub record Round : Type 0 where
  pub first : Instant
  pub sent : Instant
  pub received : Instant
  pub reply : ReplyTexts

-- the moments of an attempt that was answered
abbrev pub round_moments : Round → List Instant
round_moments round = round.first ∷ round.sent ∷ round.received ∷ []

-- the skew that its reply gives, if any: none where the bag disables the correction
abbrev pub round_skew : ConfigBag → Round → Option ℤ
round_skew bag round = measured (bag_with_time round.sent bag) round.reply.response.headers round.received

-- the skew that its reply gives where the correction is on: none where the reply is from a cache
abbrev pub own_skew : Round → Option ℤ
own_skew round =
    if is_some (first_value round.reply.response.headers (codes "age")) then None
    else option_and_then (λ server. skew_at round.sent round.received server) (option_and_then parse_secs (first_value round.reply.response.headers (codes "date")))

-- its reply with the skew that was measured
abbrev pub answered : ConfigBag → Round → ReplyTexts
answered bag round = record round.reply { response = response_with_skew (round_skew bag round) round.reply.response }

-- the skew that is known after some were measured or not: the last one, or else the one before them
abbrev pub known_skew : Option ℤ → List (Option ℤ) → Option ℤ
known_skew before [] = before
known_skew before (skew ∷ skews) = known_skew (option_or skew before) skews

-- the bag in the attempt after these, with that attempt's number and the skew that their replies gave
abbrev pub attempt_bag : ConfigBag → List Round → ConfigBag
attempt_bag bag rounds = record bag {
  attempts = Some (length rounds + 1);
  attempt_skew = known_skew bag.attempt_skew (map (round_skew bag) rounds);
}

-- whether a reply is worth one attempt more: its error's code is that of a throttling or a transient error, or the clocks differ and the code is one of skew
abbrev pub is_worth_more : ReplyTexts → Bool
is_worth_more reply = is_some (kind_of transient_codes (reply_code reply)) || (is_skewed (Some reply.response) && is_skew_error (reply_code reply))

-- whether the reply of an attempt is, with the skew that was measured
abbrev pub is_again : ConfigBag → Round → Bool
is_again bag round = is_worth_more (answered bag round)

-- how many stand at the front of a list that all pass a test
abbrev pub leading : {A : Type 0} → (A → Bool) → List A → ℕ
leading test [] = 0
leading test (x ∷ xs) = if test x then leading test xs + 1 else 0

-- the most attempts: those of the retry config, or else 1
abbrev pub most_attempts : ConfigBag → ℕ
most_attempts bag = option_map_or (λ retry. retry.max_attempts) bag.retry 1

-- the number of the first attempt whose reply isn't worth one more, or the most attempts, where that is less
abbrev pub attempts_by : ℕ → (Round → Bool) → List Round → ℕ
attempts_by most again rounds = min most (leading again rounds + 1)

-- how many attempts are made with a bag: the last one's reply isn't worth one more, or no more may be made
abbrev pub attempts : ConfigBag → List Round → ℕ
attempts bag rounds = attempts_by (most_attempts bag) (is_again bag) rounds
