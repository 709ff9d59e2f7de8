-- What words write.
use Rattle.std.specs.Prelude.{ℕ, List, FitsSigned}
use Rattle.std.specs.Int.{w64}
use Rattle.std.specs.Str.Parse.{IsNumeral, signed_digits_value, without_leading_sign}

-- the text writes a whole number of 64 bits in decimal digits
abbrev pub IsNumber : List ℕ → Type 0
IsNumber text = IsNumeral 10 (without_leading_sign text) × FitsSigned w64 (signed_digits_value 10 text)
