-- A signature is of hexadecimal digits in lower case.
use Rattle.std.proofs.Common.{◌≡◌, ℕ, ◌/◌, ◌%◌, ◌<◌, true, ◌&&◌, List, [], ◌∷◌, slice_index, refl, arith}
use Rattle.std.specs.Prelude.{nat_lt}
use Rattle.std.specs.List.{list_all}
use Rattle.std.proofs.lemmas.Bool.{agree_below_at, and_parts, ltb-true}
use Rattle.hex.specs.Hex.{encode_lower, encode_with, lower_digits}
use Rattle.sigv4.specs.Signature.{is_lower_digit}

digit_fine : (digit : ℕ) → digit < 16 → is_lower_digit (slice_index lower_digits digit) ≡ true
digit_fine digit small = agree_below_at (λ d. is_lower_digit (slice_index lower_digits d)) (λ _. true) 16 digit refl small

pub encoded_digits : (bytes : List ℕ) → list_all (λ b. nat_lt b 256) bytes ≡ true → list_all is_lower_digit (encode_lower bytes) ≡ true
unfolding encode_with
encoded_digits [] are = refl
encoded_digits (b ∷ bytes) are =
    let parts = and_parts (nat_lt b 256) (list_all (λ b. nat_lt b 256) bytes) are in
    let small : b < 256 = ltb-true b 256 parts.0 in
    λ i. digit_fine (b / 16) (omega (arith, small)) i && (digit_fine (b % 16) (omega arith) i && encoded_digits bytes parts.1 i)

pub digit_low : (byte : ℕ) → is_lower_digit byte ≡ true → byte < 128
digit_low byte is = grind arith
