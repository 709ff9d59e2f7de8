-- The number that hexadecimal digits write.
use Rattle.std.proofs.Common.{◌≡◌, ℕ, ◌+◌, ◌*◌, ◌^◌, ◌<◌, ◌≤◌, Bool, true, false, cond, List, [], ◌∷◌, drop, take, length, get_or, add_comm, refl, ap, subst, arith, add-one, drop-cons, lit<}
use Rattle.std.proofs.Math.Nat.{pow-le-pow_right, pow-suc}
use Rattle.std.proofs.lemmas.Bool.Decides.{nat_tests}
use Rattle.std.specs.Char.{digit_value}
use Rattle.std.specs.List.{prefix_len}
use Rattle.std.specs.Str.Parse.{AllDigits, digits_value_after}
use Rattle.std.proofs.lemmas.List.Sums.{prefix_len-le-length}
use Rattle.chunk_watch.specs.Front.{is_hex_digit}

-- so many digits write a number below this
pub digits_low : (n i : ℕ) → i ≤ 8 → n < 16 ^ i → n < 4294967296
digits_low n i le lt = let most : 16 ^ i ≤ 16 ^ 8 = pow-le-pow_right {n = 16} (lit< tt) le in omega (arith, most)

-- one digit more
pub digit_more : (n i d : ℕ) → n < 16 ^ i → d < 16 → n * 16 + d < 16 ^ (i + 1)
digit_more n i d lt low = rw (add-one i, pow-suc 16 i) (omega arith)

-- the next digit
pub next_digit : (digits : List ℕ) (i : ℕ) → i < length digits → AllDigits 16 (drop i digits)
    → (digit_value (get_or digits i 0) < 16) × AllDigits 16 (drop (i + 1) digits)
next_digit digits i lt all = let P : List ℕ → Type 0 = λ ds. AllDigits 16 ds in rw (add-one i) (subst P (drop-cons digits i 0 lt) all)

pub next_value : (digits : List ℕ) (i n : ℕ) → i < length digits
    → digits_value_after 16 n (drop i digits) ≡ digits_value_after 16 (n * 16 + digit_value (get_or digits i 0)) (drop (i + 1) digits)
next_value digits i n lt = rw (add-one i) (ap (digits_value_after 16 n) (drop-cons digits i 0 lt))

-- the next byte
pub next_count : (bytes : List ℕ) (i : ℕ) → i < length bytes
    → prefix_len is_hex_digit (drop i bytes) ≡ cond (is_hex_digit (get_or bytes i 0)) (1 + prefix_len is_hex_digit (drop (i + 1) bytes)) 0
next_count bytes i lt = rw (add-one i) (ap (prefix_len is_hex_digit) (drop-cons bytes i 0 lt))

-- the digits with which bytes begin are digits
pub first_digits : (bytes : List ℕ) → AllDigits 16 (take (prefix_len is_hex_digit bytes) bytes)
first_digits [] = tt
first_digits (byte ∷ bytes) = by (is_hex_digit byte) refl (first_digits bytes)
  where
    by : (b : Bool) → is_hex_digit byte ≡ b → AllDigits 16 (take (prefix_len is_hex_digit bytes) bytes)
        → AllDigits 16 (take (cond b (1 + prefix_len is_hex_digit bytes) 0) (byte ∷ bytes))
    by true e others = rw (add_comm 1 (prefix_len is_hex_digit bytes), add-one (prefix_len is_hex_digit bytes)) (grind (arith, nat_tests), others)
    by false e others = tt

pub few_digits : (bytes : List ℕ) → prefix_len is_hex_digit bytes ≤ length bytes
few_digits bytes = prefix_len-le-length is_hex_digit bytes
