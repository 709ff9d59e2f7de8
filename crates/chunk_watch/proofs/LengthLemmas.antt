-- The length of a chunk as it is written.
use Rattle.std.proofs.Common.{◌≡◌, ℕ, zero, suc, ◌+◌, ◌/◌, ◌%◌, ◌^◌, ◌<◌, ◌≤◌, Bool, true, false, cond, nat_eq, List, [], ◌∷◌, ◌++◌, length, refl, ap, ◌∙◌, arith}
use Rattle.std.proofs.Math.Nat.{pow-suc}
use Rattle.std.specs.Char.{digit_value}
use Rattle.std.specs.Fmt.{digit_glyph, digits, digits_onto}
use Rattle.std.specs.List.{prefix_len}
use Rattle.std.specs.Str.Parse.{AllDigits, digits_value}
use Rattle.std.proofs.lemmas.Bool.{eqb-false}
use Rattle.std.proofs.lemmas.Bool.Decides.{nat_tests}
use Rattle.std.proofs.lemmas.Fmt.{digits_is_IsNumeral}
use Rattle.aws_chunked.specs.Text.{length_text}
use Rattle.chunk_watch.specs.Front.{is_hex_digit}

is_hex : (byte : ℕ) → digit_value byte < 16 → is_hex_digit byte ≡ true
is_hex byte low = grind (arith, nat_tests)

-- digits before another byte are counted
pub counted_digits : (ds : List ℕ) (byte : ℕ) (rest : List ℕ) → AllDigits 16 ds → is_hex_digit byte ≡ false → prefix_len is_hex_digit (ds ++ byte ∷ rest) ≡ length ds
counted_digits [] byte rest are other = ap (λ (b : Bool). cond b (1 + prefix_len is_hex_digit rest) 0) other
counted_digits (d ∷ ds) byte rest are other =
    ap (λ (b : Bool). cond b (1 + prefix_len is_hex_digit (ds ++ byte ∷ rest)) 0) (is_hex d are.0)
    ∙ omega (arith, counted_digits ds byte rest are.1 other)

onto_short : (k j n : ℕ) (behind : List ℕ) → n < 16 ^ suc j → length (digits_onto k 16 true n behind) ≤ suc j + length behind
onto_short zero j n behind small = omega arith
onto_short (suc k) zero n behind small = by (nat_eq (n / 16) 0) refl
  where
    by : (b : Bool) → nat_eq (n / 16) 0 ≡ b
        → length (cond b (digit_glyph true (n % 16) ∷ behind) (digits_onto k 16 true (n / 16) (digit_glyph true (n % 16) ∷ behind))) ≤ suc zero + length behind
    by true is = omega arith
    by false is = absurd (eqb-false (n / 16) 0 is (omega (arith, small, pow-suc 16 0)))
onto_short (suc k) (suc j) n behind small =
    by (nat_eq (n / 16) 0) (onto_short k j (n / 16) (digit_glyph true (n % 16) ∷ behind) (omega (arith, small, pow-suc 16 (suc j))))
  where
    by : (b : Bool) → length (digits_onto k 16 true (n / 16) (digit_glyph true (n % 16) ∷ behind)) ≤ suc j + length (digit_glyph true (n % 16) ∷ behind)
        → length (cond b (digit_glyph true (n % 16) ∷ behind) (digits_onto k 16 true (n / 16) (digit_glyph true (n % 16) ∷ behind))) ≤ suc (suc j) + length behind
    by true more = omega arith
    by false more = omega (arith, more)

-- a length that 32 bits count has up to eight digits
pub few_written : (n : ℕ) → n ≤ 4294967295 → length (length_text n) ≤ 8
unfolding digits
few_written n low = omega (arith, onto_short 64 7 n [] (omega (arith, low)))

pub some_written : (n : ℕ) → n ≤ 4294967295 → 0 < length (length_text n)
some_written n low = (digits_is_IsNumeral 16 true (omega arith) (omega arith) n (omega (arith, low))).0.0

pub digits_written : (n : ℕ) → n ≤ 4294967295 → AllDigits 16 (length_text n)
digits_written n low = (digits_is_IsNumeral 16 true (omega arith) (omega arith) n (omega (arith, low))).0.1

pub value_written : (n : ℕ) → n ≤ 4294967295 → digits_value 16 (length_text n) ≡ n
value_written n low = (digits_is_IsNumeral 16 true (omega arith) (omega arith) n (omega (arith, low))).1
