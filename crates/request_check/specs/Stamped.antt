-- Texts of moments, read.
use Rattle.std.specs.Prelude.{◌≡◌, ℕ, ◌+◌, ◌*◌, ◌<◌, List, Option, Some, None, pos, ◌+ℤ◌, ◌*ℤ◌}
use Rattle.jiff_core.specs.Calendar.{days_from_civil}
use Rattle.smithy_core.specs.Civil.{IsInYears, civil_of, stamp}
use Rattle.smithy_core.specs.CivilText.{FitsDigits, stamp_of, two_digits}
use Rattle.smithy_core.specs.Moment.{Instant}
use Rattle.smithy_core.specs.declared.civil_text.Civil.{Civil}

-- a whole second of the years 0 to 9999
pub record IsWholeSecond (t : Instant) : Type 0 where
  pub in_years : IsInYears t
  pub whole : t.nanos ≡ 0

-- the whole second whose stamp the text is, or that it is none's
abbrev pub ReadsStamp : List ℕ → Option Instant → Type 0
ReadsStamp text None = (t : Instant) → IsWholeSecond t → stamp t ≡ text → ⊥
ReadsStamp text (Some t) = IsWholeSecond t × (stamp t ≡ text)

-- a number below 100, and the only one that can have these two digits
abbrev pub IsTwoDigits : List ℕ → ℕ → Type 0
IsTwoDigits digits number = (number < 100) × ((n : ℕ) → n < 100 → two_digits n ≡ digits → n ≡ number)

-- the year has at most four digits, and the month and the day have at most two
pub record IsShortDate (c : Civil) : Type 0 where
  pub year : c.year < 10000
  pub month : c.month < 100
  pub day : c.day < 100

-- the only date and time that can have this stamp
abbrev pub IsOnlyCivil : List ℕ → Civil → Type 0
IsOnlyCivil text civil = (c : Civil) → FitsDigits c → stamp_of c ≡ text → c ≡ civil

-- the second of a time of day
abbrev pub second_of_day : Civil → ℕ
second_of_day c = c.hour * 3600 + c.minute * 60 + c.second

-- the whole second at a date and a time of day
abbrev pub at_civil : Civil → Instant
at_civil c = record { secs = days_from_civil (pos c.year) c.month c.day *ℤ pos 86400 +ℤ pos (second_of_day c); nanos = 0 }

-- the whole second at a date and a time of day, or that these are no moment's
abbrev pub FindsMoment : Civil → Option Instant → Type 0
FindsMoment civil None = (t : Instant) → IsInYears t → civil_of t ≡ civil → ⊥
FindsMoment civil (Some moment) = moment ≡ at_civil civil
