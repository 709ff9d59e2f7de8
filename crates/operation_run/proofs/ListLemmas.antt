-- Lists of attempts.
use Rattle.std.proofs.Common.{◌≡◌, ℕ, zero, suc, ◌+◌, ◌<◌, ◌≤◌, Bool, true, false, ◌&&◌, List, [], ◌∷◌, ◌++◌, flat_map, length, map, min, replicate, take, Option, Some, None, refl, ap, arith, ◌∙◌}
use Rattle.std.specs.Prelude.{if◌then◌else◌, nat_lt}
use Rattle.std.specs.List.{list_all}
use Rattle.std.specs.Option.{option_or}
use Rattle.std.proofs.lemmas.List.{append-nil, append_assoc}
use Rattle.smithy_core.specs.Moment.{Instant}
use Rattle.operation_run.specs.Again.{Round, leading, round_moments}
use Rattle.operation_run.specs.Rounds.{first_there, fronts, round_at}

-- ## Moments

-- an attempt whose moments are the same
same_round : (at : Instant) (round : Round) → round.first ≡ at → round.sent ≡ at → round.received ≡ at → round ≡ round_at at round.reply
same_round at round first sent received =
    let made : Instant → Instant → Instant → Round = λ f s r. record { first = f; sent = s; received = r; reply = round.reply } in
    ap (λ f. made f round.sent round.received) first ∙ ap (λ s. made at s round.received) sent ∙ ap (made at at) received

-- attempts whose moments are all the same
pub same_rounds : (at : Instant) (rounds : List Round) (more : List Instant)
    → flat_map round_moments rounds ++ more ≡ replicate (length (flat_map round_moments rounds ++ more)) at
    → rounds ≡ map (round_at at) (map (λ r. r.reply) rounds)
same_rounds at [] more same = refl
same_rounds at (round ∷ rounds) more same =
    let first : round.first ≡ at = cc in
    let sent : round.sent ≡ at = cc in
    let received : round.received ≡ at = cc in
    let rest : flat_map round_moments rounds ++ more ≡ replicate (length (flat_map round_moments rounds ++ more)) at = cc in
    ap (λ r. r ∷ rounds) (same_round at round first sent received) ∙ ap (λ rs. round_at at round.reply ∷ rs) (same_rounds at rounds more rest)

-- and those that follow
pub same_more : (at : Instant) (rounds : List Round) (more : List Instant)
    → flat_map round_moments rounds ++ more ≡ replicate (length (flat_map round_moments rounds ++ more)) at → more ≡ replicate (length more) at
same_more at [] more same = same
same_more at (round ∷ rounds) more same =
    let rest : flat_map round_moments rounds ++ more ≡ replicate (length (flat_map round_moments rounds ++ more)) at = cc in
    same_more at rounds more rest

-- ## Fronts

module _ {A : Type 0} where
  -- the fronts of the first elements, and the next one
  pub fronts_next : (before xs ys : List A) → take (suc (length xs)) (fronts before (xs ++ ys)) ≡ take (length xs) (fronts before (xs ++ ys)) ++ (before ++ xs) ∷ []
  fronts_next before [] [] = rw (append-nil before) refl
  fronts_next before [] (y ∷ ys) = rw (append-nil before) refl
  fronts_next before (x ∷ xs) ys =
      ap (λ rest. before ∷ rest) (fronts_next (before ++ x ∷ []) xs ys) ∙ ap (λ last. before ∷ (take (length xs) (fronts (before ++ x ∷ []) (xs ++ ys)) ++ last ∷ [])) (append_assoc before (x ∷ []) xs)

  -- as many pass as stand before the next one
  pub leading_take : (test : A → Bool) (n : ℕ) (xs : List A) → leading test (take n xs) ≡ min n (leading test xs)
  leading_take test zero xs = omega arith
  leading_take test (suc n) [] = omega arith
  leading_take test (suc n) (x ∷ xs) = by_test (test x) (leading_take test n xs)
    where
      by_test : (passes : Bool) → leading test (take n xs) ≡ min n (leading test xs)
          → (if passes then leading test (take n xs) + 1 else 0) ≡ min (suc n) (if passes then leading test xs + 1 else 0)
      by_test true rest = omega (arith, rest)
      by_test false rest = omega arith

  -- where as many stand at the front of a list as in it, all pass
  all_pass : (test : A → Bool) (xs : List A) → length xs ≤ leading test xs → list_all test xs ≡ true
  all_pass test [] long = refl
  all_pass test (x ∷ xs) long = by_test (test x) (all_pass test xs) long
    where
      by_test : (passes : Bool) → (length xs ≤ leading test xs → list_all test xs ≡ true) → suc (length xs) ≤ (if passes then leading test xs + 1 else 0)
          → passes && list_all test xs ≡ true
      by_test true rest long = rest (omega (arith, long))
      by_test false rest long = absurd (omega (arith, long))

  -- and the other way round
  pass_all : (test : A → Bool) (xs : List A) → list_all test xs ≡ true → leading test xs ≡ length xs
  pass_all test [] all = refl
  pass_all test (x ∷ xs) all = by_test (test x) (pass_all test xs) all
    where
      by_test : (passes : Bool) → (list_all test xs ≡ true → leading test xs ≡ length xs) → passes && list_all test xs ≡ true
          → (if passes then leading test xs + 1 else 0) ≡ suc (length xs)
      by_test true rest all = let same = rest all in omega (arith, same)
      by_test false rest all = cc

  -- a list is used up where another of its elements would be asked for
  pub used_up : (test : A → Bool) (most : ℕ) (xs : List A) → length xs < min most (leading test xs + 1) → (nat_lt (length xs) most && list_all test xs) ≡ true
  used_up test most xs short =
      let long : length xs ≤ leading test xs = omega (arith, short) in
      let below : length xs < most = omega (arith, short) in
      let less : nat_lt (length xs) most ≡ true = search (arith, below) in
      rw (less, all_pass test xs long) refl

  -- and else not
  pub not_used_up : (test : A → Bool) (most : ℕ) (xs : List A) → min most (leading test xs + 1) ≤ length xs → (nat_lt (length xs) most && list_all test xs) ≡ false
  not_used_up test most xs enough = by_all (list_all test xs) refl (nat_lt (length xs) most) refl
    where
      by_all : (all : Bool) → list_all test xs ≡ all → (less : Bool) → nat_lt (length xs) most ≡ less → (less && all) ≡ false
      by_all false is true less = refl
      by_all false is false less = refl
      by_all true is false less = refl
      by_all true is true less =
          let same = pass_all test xs is in
          let below : length xs < most = search (arith, less) in
          absurd (omega (arith, enough, same, below))

-- ## The first that is there

module _ {A : Type 0} where
  -- of two lists
  pub first_there-append : (xs ys : List (Option A)) → first_there (xs ++ ys) ≡ option_or (first_there xs) (first_there ys)
  first_there-append [] ys = refl
  first_there-append (None ∷ xs) ys = first_there-append xs ys
  first_there-append (Some x ∷ xs) ys = refl

  -- it stays the first, whatever follows
  pub first_there-more : (k n : ℕ) (xs : List (Option A)) (x : A) → k ≤ n → first_there (take k xs) ≡ Some x → first_there (take n xs) ≡ Some x
  first_there-more zero n xs x less is = cc
  first_there-more (suc k) zero xs x less is = absurd (omega (arith, less))
  first_there-more (suc k) (suc n) [] x less is = is
  first_there-more (suc k) (suc n) (None ∷ xs) x less is = first_there-more k n xs x (omega (arith, less)) is
  first_there-more (suc k) (suc n) (Some other ∷ xs) x less is = is

-- ## Alike

-- a test that answers alike passes alike
pub leading_same : {A : Type 0} (f g : A → Bool) → ((x : A) → f x ≡ g x) → (xs : List A) → leading f xs ≡ leading g xs
leading_same f g same [] = refl
leading_same f g same (x ∷ xs) = ap (λ n. if f x then n + 1 else 0) (leading_same f g same xs) ∙ ap (λ b. if b then leading g xs + 1 else 0) (same x)

-- and a function that gives alike maps alike
pub map_same : {A B : Type 0} (f g : A → B) → ((x : A) → f x ≡ g x) → (xs : List A) → map f xs ≡ map g xs
map_same f g same [] = refl
map_same f g same (x ∷ xs) = ap (λ y. y ∷ map f xs) (same x) ∙ ap (λ ys. g x ∷ ys) (map_same f g same xs)
