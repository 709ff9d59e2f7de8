-- Whether an operation is tried once more, and how often it is tried.
use Rattle.std.proofs.Common.{◌≡◌, ℕ, suc, ◌+◌, ◌≤◌, Bool, true, false, List, [], ◌∷◌, ◌++◌, length, Option, Some, None, refl, arith, if◌then◌else◌}
use Rattle.std.specs.Prelude.{is_some}
use Rattle.aws_intercept.specs.Classify.{Acts}
use Rattle.aws_intercept.specs.declared.classify.RetryAction.{RetryAction}
use Rattle.aws_intercept.specs.declared.classify.RetryAction.TheVariants.{NoActionIndicated, Retryable}
use Rattle.aws_intercept.specs.declared.classify.RetryKind.{RetryKind}
use Rattle.operation_run.specs.Again.{leading}

-- whether an attempt may be made again
abbrev pub is_retryable : RetryAction → Bool
is_retryable NoActionIndicated = false
is_retryable (Retryable kind delay) = true

-- it may where there is a kind of error
pub acts_kind : (kind : Option RetryKind) (text : Option (List ℕ)) (action : RetryAction) → Acts kind text action → is_some kind ≡ is_retryable action
acts_kind None text action is = rw is refl
acts_kind (Some kind) text NoActionIndicated is = absurd is
acts_kind (Some kind) text (Retryable found delay) is = refl

-- one more at the end of a list that all pass
pub leading_more : {A : Type 0} (test : A → Bool) (xs : List A) (x : A) → leading test xs ≡ length xs → leading test (xs ++ x ∷ []) ≡ length xs + (if test x then 1 else 0)
leading_more test [] x all = by_test (test x)
  where
    by_test : (passes : Bool) → (if passes then 0 + 1 else 0) ≡ 0 + (if passes then 1 else 0)
    by_test true = refl
    by_test false = refl
leading_more test (y ∷ xs) x all = by_test (leading_more test xs x) (test y) all
  where
    by_test : (leading test xs ≡ length xs → leading test (xs ++ x ∷ []) ≡ length xs + (if test x then 1 else 0))
        → (passes : Bool) → (if passes then leading test xs + 1 else 0) ≡ suc (length xs)
        → (if passes then leading test (xs ++ x ∷ []) + 1 else 0) ≡ suc (length xs) + (if test x then 1 else 0)
    by_test more true all = let rest : leading test xs ≡ length xs = omega (arith, all) in rw (more rest) (omega arith)
    by_test more false all = absurd (omega (arith, all))

-- no more stand at the front of a list than in it
pub leading_within : {A : Type 0} (test : A → Bool) (xs : List A) → leading test xs ≤ length xs
leading_within test [] = omega arith
leading_within test (x ∷ xs) = by_test (leading_within test xs) (test x)
  where
    by_test : leading test xs ≤ length xs → (passes : Bool) → (if passes then leading test xs + 1 else 0) ≤ suc (length xs)
    by_test within true = omega (arith, within)
    by_test within false = omega arith
