-- Zero bytes by powers of 2. Tables of the powers are checked entry by entry: the first by the digit, each other one by the table before it.
use Rattle.std.proofs.Common.{◌≡◌, ℕ, zero, suc, ◌+◌, ◌*◌, ◌/◌, ◌%◌, ◌^◌, ◌<◌, ◌≤◌, ◌≢◌, Bool, true, eqb, List, [], length, get_or, refl, sym, ap, ◌∙◌, inl, inr, arith, eqb-true}
use Rattle.std.specs.Prelude.{bit_xor}
use Rattle.std.proofs.lemmas.Bool.{agree_below, agree_below_at, cases_lt}
use Rattle.std.proofs.Math.Pow.{pow_mono}
use Rattle.std.proofs.lemmas.Nat.{mul-le, pow_pos, xor_block, xor_comm}
use Rattle.std.proofs.lemmas.Grind.{pow_more}
use lib.Bits.{xor_assoc, xor_self, xor_zero_r}
use Rattle.mac_core.specs.Crc.{after_bits, after_bytes}
use Rattle.mac_core.specs.declared.powers.TheConstants.{POWERS}
use Rattle.mac_core.proofs.CrcLemmas.{bits_below}
use Rattle.mac_core.proofs.LinearLemmas.{bytes_linear, in_place, joined, linear, none_left}

-- the entry of a digit at a place of the table of a power
abbrev pub power_entry : ℕ → ℕ → ℕ → ℕ
power_entry power place digit = get_or (get_or POWERS power []) (16 * place + digit) 0

-- what a table's power leaves of a register: that of each digit at its place, all xored
abbrev pub digits_past : (ℕ → ℕ → ℕ) → ℕ → ℕ
digits_past at r =
    bit_xor (bit_xor (bit_xor (bit_xor (bit_xor (bit_xor (bit_xor (at 0 (r / 1 % 16)) (at 1 (r / 16 % 16))) (at 2 (r / 256 % 16))) (at 3 (r / 4096 % 16)))
    (at 4 (r / 65536 % 16))) (at 5 (r / 1048576 % 16))) (at 6 (r / 16777216 % 16))) (at 7 (r / 268435456 % 16))

-- whether an entry of the first table is right
abbrev is_first : ℕ → ℕ → Bool
is_first place digit = eqb (power_entry 0 place digit) (after_bits 8 (digit * 2 ^ (4 * place)) 0)

-- whether an entry is the one before it, with as many zero bytes more
abbrev is_next : ℕ → ℕ → ℕ → Bool
is_next power place digit = eqb (power_entry (suc power % 32) place digit) (digits_past (power_entry power) (power_entry power place digit))

abbrev each_digit : (ℕ → ℕ → Bool) → Bool
each_digit test = agree_below (λ place. agree_below (test place) (λ _. true) 16) (λ _. true) 8

first_checked : each_digit is_first ≡ true
unfolding after_bits
first_checked = refl

others_checked : agree_below (λ power. each_digit (is_next power)) (λ _. true) 32 ≡ true
others_checked = refl

at_each : (test : ℕ → ℕ → Bool) (place digit : ℕ) → each_digit test ≡ true → place < 8 → digit < 16 → test place digit ≡ true
at_each test place digit checked p d =
    agree_below_at (test place) (λ _. true) 16 digit (agree_below_at (λ place. agree_below (test place) (λ _. true) 16) (λ _. true) 8 place checked p) d

-- a part of a register and what lies below it, each alone
part_past : (n w z a s : ℕ) → z ≡ a * 2 ^ w + s → s < 2 ^ w → after_bits n z 0 ≡ bit_xor (after_bits n s 0) (after_bits n (a * 2 ^ w) 0)
part_past n w z a s e l =
    ap (λ (x : ℕ). after_bits n x 0) (split ∙ xor_comm (a * 2 ^ w) s) ∙ linear n s (a * 2 ^ w) 0
  where
    zero_l : (x : ℕ) → bit_xor 0 x ≡ x
    zero_l x = xor_comm 0 x ∙ xor_zero_r x

    split : z ≡ bit_xor (a * 2 ^ w) s
    split =
        in_place {b = a * 2 ^ w} {c = s} {b' = a * 2 ^ w + 0} {c' = 0 * 2 ^ w + s}
        (e ∙ sym (ap (λ (x : ℕ). x * 2 ^ w + bit_xor 0 s) (xor_zero_r a) ∙ ap (λ (x : ℕ). a * 2 ^ w + x) (zero_l s))) (omega arith) (omega arith)
        (sym (xor_block w a 0 0 s (pow_pos w) l))

-- what zeros leave of a register is what they leave of its digits, all xored
digits : (n r : ℕ) → r < 2 ^ 32 → after_bits n r 0 ≡ digits_past (λ place digit. after_bits n (digit * 2 ^ (4 * place)) 0) r
digits n r l =
    let p₁ = part_past n 4 (r % 256) (r / 16 % 16) (r % 16) (omega arith) (omega arith) in
    let p₂ = part_past n 8 (r % 4096) (r / 256 % 16) (r % 256) (omega arith) (omega arith) in
    let p₃ = part_past n 12 (r % 65536) (r / 4096 % 16) (r % 4096) (omega arith) (omega arith) in
    let p₄ = part_past n 16 (r % 1048576) (r / 65536 % 16) (r % 65536) (omega arith) (omega arith) in
    let p₅ = part_past n 20 (r % 16777216) (r / 1048576 % 16) (r % 1048576) (omega arith) (omega arith) in
    let p₆ = part_past n 24 (r % 268435456) (r / 16777216 % 16) (r % 16777216) (omega arith) (omega arith) in
    let p₇ = part_past n 28 r (r / 268435456 % 16) (r % 268435456) (omega arith) (omega arith) in
    let p₀ : r % 16 ≡ r / 1 % 16 * 1 = omega arith in
    below _ p₇ (below _ p₆ (below _ p₅ (below _ p₄ (below _ p₃ (below _ p₂ (below _ p₁ (ap (λ (x : ℕ). after_bits n x 0) p₀)))))))
  where
    below : {a b d : ℕ} (c : ℕ) → a ≡ bit_xor b c → b ≡ d → a ≡ bit_xor d c
    below c e f = e ∙ ap (λ (x : ℕ). bit_xor x c) f

-- two readings of the digits that agree at each leave the same
same_digits : (f g : ℕ → ℕ → ℕ) (r : ℕ) → ((place digit : ℕ) → place < 8 → digit < 16 → f place digit ≡ g place digit) → digits_past f r ≡ digits_past g r
same_digits f g r h =
    rw (
      h 0 (r / 1 % 16) (omega arith) (omega arith),
      h 1 (r / 16 % 16) (omega arith) (omega arith),
      h 2 (r / 256 % 16) (omega arith) (omega arith),
      h 3 (r / 4096 % 16) (omega arith) (omega arith),
      h 4 (r / 65536 % 16) (omega arith) (omega arith),
      h 5 (r / 1048576 % 16) (omega arith) (omega arith),
      h 6 (r / 16777216 % 16) (omega arith) (omega arith),
      h 7 (r / 268435456 % 16) (omega arith) (omega arith),
    ) refl

-- a digit at its place is within a register
digit_below : (place digit : ℕ) → place < 8 → digit < 16 → digit * 2 ^ (4 * place) < 2 ^ 32
digit_below place digit p d = bounded digit (2 ^ (4 * place)) d (pow_mono {i = 4 * place} {j = 28} (omega arith))
  where
    bounded : (d p : ℕ) → d < 16 → p ≤ 2 ^ 28 → d * p < 2 ^ 32
    bounded d p l m = omega (arith, mul-le d p 15 (2 ^ 28) (omega arith) m)

-- the entries are what they stand for, and come again after 32 powers
pub power_at : (power place digit : ℕ) → place < 8 → digit < 16 → power_entry (power % 32) place digit ≡ after_bits (8 * 2 ^ power) (digit * 2 ^ (4 * place)) 0
power_at zero place digit p d = eqb-true _ _ (at_each is_first place digit first_checked p d)
power_at (suc power) place digit p d =
    let here = power % 32 in
    let n = 8 * 2 ^ power in
    let before : ℕ = after_bits n (digit * 2 ^ (4 * place)) 0 in
    let next : suc power % 32 ≡ suc here % 32 = omega arith in
    let checked = agree_below_at (λ power. each_digit (is_next power)) (λ _. true) 32 here others_checked (omega arith) in
    ap (λ (at : ℕ). power_entry at place digit) next
    ∙ eqb-true _ _ (at_each (is_next here) place digit checked p d)
    ∙ ap (digits_past (power_entry here)) (power_at power place digit p d)
    ∙ same_digits (power_entry here) (λ place digit. after_bits n (digit * 2 ^ (4 * place)) 0) before (power_at power)
    ∙ sym (digits n before (bits_below n _ 0 (digit_below place digit p d)))
    ∙ sym (joined (8 * 2 ^ suc power) n n (digit * 2 ^ (4 * place)) (omega arith))

-- what a power leaves of a register, by its digits
pub digits_by_power : (power r : ℕ) → r < 2 ^ 32 → digits_past (λ place digit. after_bits (8 * 2 ^ power) (digit * 2 ^ (4 * place)) 0) r ≡ after_bits (8 * 2 ^ power) r 0
digits_by_power power r l = sym (digits (8 * 2 ^ power) r l)

-- what the lowest bit of a number adds
pub lowest_one : (power count r : ℕ) → count % 2 ≡ 1 → after_bits (8 * (2 ^ power * (count % 2))) r 0 ≡ after_bits (8 * 2 ^ power) r 0
lowest_one power count r one = ap (λ (n : ℕ). after_bits (8 * n) r 0) (times (2 ^ power) (count % 2) one)
  where
    times : (p bit : ℕ) → bit ≡ 1 → p * bit ≡ p
    times p bit e = rw e (omega arith)

pub lowest_none : (power count r : ℕ) → count % 2 ≢ 1 → after_bits (8 * (2 ^ power * (count % 2))) r 0 ≡ r
lowest_none power count r other = ap (λ (n : ℕ). after_bits n r 0) (times (2 ^ power) (count % 2) (omega arith)) ∙ none_left r
  where
    times : (p bit : ℕ) → bit ≡ 0 → 8 * (p * bit) ≡ 0
    times p bit e = rw e (omega arith)

pub no_powers : (power rest left : ℕ) → rest ≤ 0 → after_bits (8 * (2 ^ power * rest)) left 0 ≡ left
no_powers power rest left none = ap (λ (n : ℕ). after_bits n left 0) (times (2 ^ power) rest (omega arith)) ∙ none_left left
  where
    times : (p rest : ℕ) → rest ≡ 0 → 8 * (p * rest) ≡ 0
    times p rest e = rw e (omega arith)

pub ruleset lowest = (lowest_one, lowest_none)

-- the powers of a number are its lowest one and those of its half
pub next_powers : (power rest left : ℕ)
    → after_bits (8 * (2 ^ (power + 1) * (rest / 2))) (after_bits (8 * (2 ^ power * (rest % 2))) left 0) 0 ≡ after_bits (8 * (2 ^ power * rest)) left 0
next_powers power rest left =
    sym (joined (8 * (2 ^ power * rest)) (8 * (2 ^ power * (rest % 2))) (8 * (2 ^ (power + 1) * (rest / 2))) left
    (times (2 ^ power) (2 ^ (power + 1)) rest (rest / 2) (rest % 2) (omega (arith, pow_more 2 power)) (omega arith)))
  where
    times : (p q rest half bit : ℕ) → q ≡ 2 * p → rest ≡ 2 * half + bit → 8 * (p * rest) ≡ 8 * (p * bit) + 8 * (q * half)
    times p q rest half bit e f = rw (e, f) (omega arith)

-- what bytes leave of a register, from what they leave of another one
pub joined_bytes : (s b t past count : ℕ) (bytes : List ℕ) → past ≡ after_bits (8 * count) (bit_xor s b) 0 → length bytes ≡ count
    → t ≡ after_bytes b bytes → bit_xor past t ≡ after_bytes s bytes
joined_bytes s b t past count bytes p l e =
    rw (p, e)
    (sym (bytes_linear (8 * count) (bit_xor s b) b bytes (omega (arith, l)))
    ∙ ap (λ (x : ℕ). after_bytes x bytes) (xor_assoc s b b ∙ ap (bit_xor s) (xor_self b) ∙ xor_zero_r s))

-- a power of which a number that fits is a multiple is one of 64
pub power_fits : (power rest count : ℕ) → 2 ^ power * rest ≤ count → 0 < rest → count < 2 ^ 64 → power < 64
power_fits power rest count l pos fits = elim (cases_lt power 64) [
  | inl low ↦ low
  | inr high ↦ absurd (omega (arith, pow_mono {i = 64} {j = power} high, mul-le (2 ^ power) 1 (2 ^ power) rest (omega arith) pos))
]

-- half a number at the next power is no more
pub less_left : (power rest count : ℕ) → 2 ^ power * rest ≤ count → 2 ^ (power + 1) * (rest / 2) ≤ count
less_left power rest count l = halved (2 ^ power) (2 ^ (power + 1)) rest (rest / 2) count (omega (arith, pow_more 2 power)) (omega arith) l
  where
    halved : (p q rest half count : ℕ) → q ≡ 2 * p → 2 * half ≤ rest → p * rest ≤ count → q * half ≤ count
    halved p q rest half count e f l = rw e (omega (arith, mul-le p (2 * half) p rest (omega arith) f, l))
