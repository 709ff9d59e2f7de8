-- The two texts of time of AWS Signature Version 4.
use Rattle.std.specs.Prelude.{ℕ, ◌+◌, ◌/◌, ◌%◌, ◌<◌, ◌≤◌, List, [], ◌∷◌, ◌++◌, codes}
use Rattle.smithy_core.specs.declared.civil_text.Civil.{Civil}

-- the last two decimal digits of a number
abbrev pub two_digits : ℕ → List ℕ
two_digits n = (48 + n / 10 % 10) ∷ (48 + n % 10) ∷ []

-- the date as `YYYYMMDD`
unfoldable pub date_of : Civil → List ℕ
date_of c = two_digits (c.year / 100) ++ two_digits c.year ++ two_digits c.month ++ two_digits c.day

-- date and time as `YYYYMMDDTHHMMSSZ`
unfoldable pub stamp_of : Civil → List ℕ
stamp_of c = date_of c ++ codes "T" ++ two_digits c.hour ++ two_digits c.minute ++ two_digits c.second ++ codes "Z"

-- each number fits its digits, and the month is one
pub record FitsDigits (c : Civil) : Type 0 where
  pub year : c.year < 10000
  pub month_low : 1 ≤ c.month
  pub month_high : c.month ≤ 12
  pub day : c.day < 100
  pub hour : c.hour < 100
  pub minute : c.minute < 100
  pub second : c.second < 100
