-- Numbers with zeros before them.
use Rattle.std.proofs.Common.{◌≡◌, ℕ, zero, suc, ◌+◌, ◌-◌, ◌/◌, ◌%◌, ◌<◌, ◌≤◌, ◌^◌, false, List, [], ◌∷◌, ◌++◌, length, replicate, refl, sym, ap, ◌∙◌, inl, inr, arith, append_assoc, append-nil, length-append}
use Rattle.std.proofs.Math.Nat.{sub-zero}
use Rattle.std.proofs.lemmas.Bool.{cases_order}
use Rattle.std.proofs.lemmas.Fmt.{decimal_digit, decimal_step}
use Rattle.std.proofs.lemmas.List.{replicate-append-replicate}
use Rattle.std.specs.Fmt.{decimal, padded_integral, format_spec, char_count}
use Rattle.smithy_core.specs.CivilText.{two_digits}
use Rattle.smithy_core.specs.Format.{last_digits}

-- zeros alone
zeros : (k : ℕ) → last_digits k 0 ≡ replicate k 48
unfolding last_digits
zeros zero = refl
zeros (suc k) = ap (λ (ds : List ℕ). ds ++ 48 ∷ []) (zeros k) ∙ replicate-append-replicate k 1 48 ∙ ap (λ (n : ℕ). replicate n 48) (let e : k + 1 ≡ suc k = omega arith in e)

-- a digit with zeros before it
shorter : (k n : ℕ) → n < 10 → replicate (suc (suc k) - length (decimal n)) 48 ++ decimal n ≡ last_digits (suc k) (n / 10) ++ (48 + n % 10) ∷ []
shorter k n one =
    let high : n / 10 ≡ 0 = omega arith in
    let low : n % 10 ≡ n = omega arith in
    let left : suc (suc k) - 1 ≡ suc k = omega arith in
    rw (decimal_digit n one, high, low, zeros (suc k), left) refl

-- one digit more
longer : (k n : ℕ) → 10 ≤ n → n < 2 ^ 64 → replicate (suc k - length (decimal (n / 10))) 48 ++ decimal (n / 10) ≡ last_digits (suc k) (n / 10)
    → replicate (suc (suc k) - length (decimal n)) 48 ++ decimal n ≡ last_digits (suc k) (n / 10) ++ (48 + n % 10) ∷ []
longer k n two fits before =
    let front = decimal (n / 10) in
    let last = 48 + n % 10 in
    let step : decimal n ≡ front ++ last ∷ [] = decimal_step n two fits in
    let left : suc (suc k) - length (front ++ last ∷ []) ≡ suc k - length front = omega (arith, length-append front (last ∷ [])) in
    rw (step, left) (sym (append_assoc (replicate (suc k - length front) 48) front (last ∷ [])) ∙ ap (λ (ds : List ℕ). ds ++ last ∷ []) before)

-- digits with zeros before them
filled : (k n : ℕ) → n < 10 ^ suc k → n < 2 ^ 64 → replicate (suc k - length (decimal n)) 48 ++ decimal n ≡ last_digits (suc k) n
unfolding last_digits
filled zero n small fits = rw (decimal_digit n (omega arith)) (let same : n % 10 ≡ n = omega arith in ap (λ d. (48 + d) ∷ []) (sym same))
filled (suc k) n small fits = elim (cases_order n 10) [
  | inl ten ↦ longer k n (omega arith) fits (filled k (n / 10) (omega arith) (omega arith))
  | inr (inl one) ↦ shorter k n one
  | inr (inr high) ↦ longer k n (omega arith) fits (filled k (n / 10) (omega arith) (omega arith))
]

padded_by_zeros : (k : ℕ) (ds : List ℕ) → padded_integral (format_spec 32 0 4 k (2 ^ 64 - 1)) false [] ds ≡ replicate (k - length ds) 48 ++ ds
unfolding padded_integral char_count
padded_by_zeros k ds = simp (append-nil, sub-zero) refl

-- what `{:02}`, `{:04}` and `{:09}` write
pub two_padded : (n : ℕ) → n < 100 → padded_integral (format_spec 32 0 4 2 (2 ^ 64 - 1)) false [] (decimal n) ≡ two_digits n
unfolding last_digits
two_padded n small = padded_by_zeros 2 (decimal n) ∙ filled 1 n (omega arith) (omega arith)

pub four_padded : (n : ℕ) → n < 10000 → padded_integral (format_spec 32 0 4 4 (2 ^ 64 - 1)) false [] (decimal n) ≡ two_digits (n / 100) ++ two_digits n
unfolding last_digits
four_padded n small =
    let hundreds : n / 10 / 10 ≡ n / 100 = omega arith in
    padded_by_zeros 4 (decimal n) ∙ filled 3 n (omega arith) (omega arith) ∙ ap (λ (h : ℕ). two_digits h ++ two_digits n) hundreds

pub nine_padded : (n : ℕ) → n < 1000000000 → padded_integral (format_spec 32 0 4 9 (2 ^ 64 - 1)) false [] (decimal n) ≡ last_digits 9 n
nine_padded n small = padded_by_zeros 9 (decimal n) ∙ filled 8 n (omega arith) (omega arith)

pub ruleset padded = (two_padded, four_padded, nine_padded)
