-- Attempts that are all made at one moment with the standard retries, and the replies that answer them.
use Rattle.std.specs.Prelude.{ℕ, ◌&&◌, Bool, nat_lt, List, [], ◌∷◌, ◌++◌, length, map, Option, Some, None, ℤ, pos}
use Rattle.std.specs.List.{list_all}
use Rattle.std.specs.Option.{option_or}
use Rattle.smithy_core.specs.Moment.{Instant}
use Rattle.aws_intercept.specs.ClockSkew.{response_with_skew}
use Rattle.operation_run.specs.Again.{Round, attempts_by, is_worth_more, known_skew, own_skew}
use Rattle.operation_run.specs.Reply.{ReplyTexts}

-- the attempt that a reply answers, whose moments are all the same
abbrev pub round_at : Instant → ReplyTexts → Round
round_at at reply = record { first = at; sent = at; received = at; reply = reply }

-- whether its reply is worth one attempt more, with the skew that was measured
abbrev pub is_retried : Round → Bool
is_retried round = is_worth_more (record round.reply { response = response_with_skew (own_skew round) round.reply.response })

-- the most attempts of the standard retries
abbrev pub standard_attempts : ℕ
standard_attempts = 3

-- how many attempts are made, of which these were answered at most: the last one isn't where the replies are used up
abbrev pub tries : List Round → ℕ
tries rounds = attempts_by standard_attempts is_retried rounds

-- the replies are used up: there are fewer than the most attempts, and each is worth one more
abbrev pub is_used_up : List Round → Bool
is_used_up rounds = nat_lt (length rounds) standard_attempts && list_all is_retried rounds

-- the skew that is known after these attempts: that of the last reply that gave one, or else none
abbrev pub skew_after : List Round → Option ℤ
skew_after rounds = known_skew (Some (pos 0)) (map own_skew rounds)

-- what comes before each element of a list, and before its end, behind what comes before the list
abbrev pub fronts : {A : Type 0} → List A → List A → List (List A)
fronts before [] = before ∷ []
fronts before (x ∷ xs) = before ∷ fronts (before ++ x ∷ []) xs

-- the first that is there
abbrev pub first_there : {A : Type 0} → List (Option A) → Option A
first_there [] = None
first_there (x ∷ xs) = option_or x (first_there xs)
