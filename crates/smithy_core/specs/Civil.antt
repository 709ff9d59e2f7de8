-- The Gregorian calendar (ISO 8601), day after day, and the two texts of time of AWS Signature Version 4.
use Rattle.std.specs.Prelude.{ℕ, zero, suc, ◌+◌, ◌/◌, ◌%◌, List, nat_lt, Bool, ◌&&◌, if◌then◌else◌, pos, negsuc, ◌+ℤ◌, ◌≤ℤ◌, int_le, unsigned_abs}
use Rattle.jiff_core.specs.Calendar.{days_in_month}
use Rattle.smithy_core.specs.Moment.{Instant}
use Rattle.smithy_core.specs.declared.civil_text.Civil.{Civil}
use Rattle.smithy_core.specs.CivilText.{date_of, stamp_of}

-- a day of the calendar
pub record Day : Type 0 where
  pub year : ℕ
  pub month : ℕ
  pub day : ℕ

-- the day after a day
unfoldable pub next_day : Day → Day
next_day d =
    if nat_lt d.day (days_in_month (pos d.year) d.month) then record d { day = d.day + 1 }
    else if nat_lt d.month 12 then record { year = d.year; month = d.month + 1; day = 1 }
    else record { year = d.year + 1; month = 1; day = 1 }

-- the day that comes n days after 1 January of the year 0
unfoldable pub day_after : ℕ → Day
day_after zero = record { year = 0; month = 1; day = 1 }
day_after (suc n) = next_day (day_after n)

-- whether the moment lies in the years 0 to 9999
abbrev pub is_in_years : Instant → Bool
is_in_years t = int_le (negsuc 62167219199) t.secs && int_le t.secs (pos 253402300799)

-- the moment lies in the years 0 to 9999
abbrev pub IsInYears : Instant → Type 0
IsInYears t = (negsuc 62167219199 ≤ℤ t.secs) × (t.secs ≤ℤ pos 253402300799)

-- the whole seconds from the start of the year 0 to a moment in the years 0 to 9999
abbrev pub year_seconds : Instant → ℕ
year_seconds t = unsigned_abs (t.secs +ℤ pos 62167219200)

-- the whole days from 1 January of the year 0 to a moment in the years 0 to 9999
abbrev pub day_number : Instant → ℕ
day_number t = year_seconds t / 86400

-- the day of the week of a moment in the years 0 to 9999, from 0 for Saturday, which 1 January of the year 0 was
abbrev pub weekday : Instant → ℕ
weekday t = day_number t % 7

-- the date and the time of day so many seconds after the start of the year 0
unfoldable pub civil_after : ℕ → Civil
civil_after seconds =
    let day = day_after (seconds / 86400) in
    let second = seconds % 86400 in
    record { year = day.year; month = day.month; day = day.day; hour = second / 3600; minute = second / 60 % 60; second = second % 60 }

-- the date and the time of day of a moment in the years 0 to 9999, in UTC, fractions rounded down
unfoldable pub civil_of : Instant → Civil
civil_of t = civil_after (year_seconds t)

-- the date of a moment in the years 0 to 9999, as text
unfoldable pub date : Instant → List ℕ
date t = date_of (civil_of t)

-- the date and the time of a moment in the years 0 to 9999, as text
unfoldable pub stamp : Instant → List ℕ
stamp t = stamp_of (civil_of t)
