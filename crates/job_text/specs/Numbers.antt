-- Numbers: decimal digits without a leading zero, with `-` before them where they are below 0.
use Rattle.std.specs.Prelude.{ℕ, ◌+◌, ◌*◌, ◌-◌, ◌==◌, Bool, false, ◌&&◌, ◌||◌, not, nat_le, nat_lt, if◌then◌else◌, List, [], ◌∷◌, length, drop, slice_index, Option, Some, None, option_and_then, ℤ, pos, neg_ℤ}
use Rattle.std.specs.List.{list_all}
use Rattle.std.specs.Int.{Width, saturate_signed}
use Rattle.std.specs.Ordering.{int_eq}

-- a decimal digit
abbrev pub is_digit : ℕ → Bool
is_digit b = nat_le 48 b && nat_le b 57

-- decimal digits without a leading zero
abbrev pub is_natural : List ℕ → Bool
is_natural [] = false
is_natural (digit ∷ digits) = list_all is_digit (digit ∷ digits) && (not (digit == 48) || length digits == 0)

-- the number that digits spell after those that spell n
abbrev pub number_on : ℕ → List ℕ → ℕ
number_on n [] = n
number_on n (digit ∷ digits) = number_on (10 * n + (digit - 48)) digits

-- the number that digits without a leading zero spell, where it is below a bound
unfoldable pub natural_below : ℕ → List ℕ → Option ℕ
natural_below bound text = if is_natural text && nat_lt (number_on 0 text) bound then Some (number_on 0 text) else None

-- `-`
abbrev pub minus_sign : ℕ
minus_sign = 45

-- `-`, and then decimal digits without a leading zero, whose first isn't zero
abbrev pub is_negative : List ℕ → Bool
is_negative text = slice_index text 0 == minus_sign && is_natural (drop 1 text) && not (slice_index text 1 == 48)

-- the number that a text spells: with `-` where it is below 0
unfoldable pub spelled : List ℕ → Option ℤ
spelled text =
    if is_natural text then Some (pos (number_on 0 text))
    else if is_negative text then Some (neg_ℤ (pos (number_on 0 (drop 1 text))))
    else None

-- the number, where it fits a width with a sign
abbrev pub if_fits : Width → ℤ → Option ℤ
if_fits w z = if int_eq (saturate_signed w z) z then Some z else None

-- the number that a text spells, where it fits a width with a sign
unfoldable pub number : Width → List ℕ → Option ℤ
number w text = option_and_then (if_fits w) (spelled text)
