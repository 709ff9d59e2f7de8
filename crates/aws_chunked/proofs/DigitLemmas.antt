-- How many hexadecimal digits a number has.
use Rattle.std.proofs.Common.{◌≡◌, ℕ, zero, suc, ◌+◌, ◌-◌, ◌*◌, ◌/◌, ◌%◌, ◌^◌, ◌<◌, ◌≤◌, Bool, true, false, cond, nat_eq, List, [], ◌∷◌, length, refl, ap, ◌∙◌, arith}
use Rattle.std.specs.Fmt.{digit_glyph, digits, digits_onto}
use Rattle.aws_chunked.specs.Text.{length_text}

-- how many digits of at most k
pub digit_count : ℕ → ℕ → ℕ
digit_count zero n = 0
digit_count (suc k) n = cond (nat_eq (n / 16) 0) 1 (suc (digit_count k (n / 16)))

-- how many more digits there are before a digit
pub count_before : ℕ → ℕ → ℕ
count_before k zero = 0
count_before k (suc r) = digit_count k (suc r)

count_step : (k n : ℕ) → digit_count (suc k) n ≡ 1 + count_before k (n / 16)
unfolding digit_count count_before
count_step k n = by (n / 16)
  where
    by : (r : ℕ) → cond (nat_eq r 0) 1 (suc (digit_count k r)) ≡ 1 + count_before k r
    by zero = refl
    by (suc r) = grind arith

length_onto : (k n : ℕ) (after : List ℕ) → length (digits_onto k 16 true n after) ≡ digit_count k n + length after
unfolding digit_count
length_onto zero n after = omega arith
length_onto (suc k) n after = by (nat_eq (n / 16) 0) (length_onto k (n / 16) (digit_glyph true (n % 16) ∷ after))
  where
    by : (b : Bool) → length (digits_onto k 16 true (n / 16) (digit_glyph true (n % 16) ∷ after)) ≡ digit_count k (n / 16) + length (digit_glyph true (n % 16) ∷ after)
        → length (cond b (digit_glyph true (n % 16) ∷ after) (digits_onto k 16 true (n / 16) (digit_glyph true (n % 16) ∷ after)))
        ≡ cond b 1 (suc (digit_count k (n / 16))) + length after
    by true rest = omega arith
    by false rest = omega (arith, rest)

length_counted : (n : ℕ) → length (length_text n) ≡ digit_count 64 n
unfolding digits
length_counted n = length_onto 64 n [] ∙ omega arith

-- 16 to the power of k
abbrev pub power : ℕ → ℕ
power zero = 1
power (suc k) = 16 * power k

-- so many digits were counted, and the rest is still to be
pub record Counts (n count rest : ℕ) : Type 0 where
  pub some : 1 ≤ count
  pub most : count ≤ 16
  pub bound : rest < power (16 - count)
  pub is : length (length_text n) ≡ count + count_before (64 - count) rest

pub counts_one : (n : ℕ) → n < 2 ^ 64 → Counts n 1 (n / 16)
counts_one n small = record {
  some = omega arith;
  most = omega arith;
  bound = omega (arith, small);
  is = length_counted n ∙ count_step 63 n;
}

before_some : (k r : ℕ) → 0 < r → count_before k r ≡ digit_count k r
unfolding count_before
before_some k zero some = absurd (omega (arith, some))
before_some k (suc r) some = refl

more : (n count rest k : ℕ) → Counts n count rest → 0 < rest → 16 - count ≡ k → Counts n (count + 1) (rest / 16)
more n count rest zero counts some left = absurd (omega (arith, some, counts.bound, ap power left))
more n count rest (suc k) counts some left =
    let next : 16 - (count + 1) ≡ k = omega (arith, left) in
    let here : 64 - count ≡ suc (64 - (count + 1)) = omega (arith, left) in
    let step = before_some (64 - count) rest some ∙ ap (λ (m : ℕ). digit_count m rest) here ∙ count_step (64 - (count + 1)) rest in record {
      some = omega arith;
      most = omega (arith, left);
      bound = omega (arith, counts.bound, ap power left, ap power next);
      is = counts.is ∙ omega (arith, step);
    }

pub counts_more : (n count rest : ℕ) → Counts n count rest → 0 < rest → Counts n (count + 1) (rest / 16)
counts_more n count rest counts some = more n count rest (16 - count) counts some refl

before_none : (k : ℕ) → count_before k 0 ≡ 0
unfolding count_before
before_none k = refl

pub counts_all : (n count rest : ℕ) → Counts n count rest → rest ≡ 0 → count ≡ length (length_text n)
counts_all n count rest counts none = omega (arith, counts.is, ap (count_before (64 - count)) none, before_none (64 - count))
