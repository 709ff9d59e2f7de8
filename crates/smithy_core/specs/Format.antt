-- The texts of a moment: date and time (RFC 3339), HTTP date (RFC 9110, section 5.6.7), and seconds.
use Rattle.std.specs.Prelude.{◌≡◌, ℕ, zero, suc, ◌+◌, ◌/◌, ◌%◌, ◌==◌, List, [], ◌∷◌, ◌++◌, ℤ, unsigned_abs, if◌then◌else◌, codes, slice_index_or, Result, Ok, Err, String, string_bytes}
use Rattle.std.specs.Fmt.{decimal, sign_text}
use Rattle.std.specs.Int.{is_negative}
use Rattle.std.specs.List.{list_all}
use Rattle.std.specs.declared.alloc.Global.{Global}
use Rattle.smithy_core.specs.Civil.{IsInYears, civil_of, weekday}
use Rattle.smithy_core.specs.CivilText.{two_digits}
use Rattle.smithy_core.specs.Moment.{Instant, total_nanos}
use Rattle.smithy_core.specs.declared.civil_text.Civil.{Civil}
use Rattle.smithy_core.specs.declared.format.Format.{Format}
use Rattle.smithy_core.specs.declared.format.Format.TheVariants.{DateTime, HttpDate, EpochSeconds}
use Rattle.smithy_core.specs.declared.format.FormatFault.{FormatFault}
use Rattle.smithy_core.specs.declared.format.FormatFault.TheVariants.{OutOfRange, NoMemory}

-- the last k decimal digits of a number
unfoldable pub last_digits : ℕ → ℕ → List ℕ
last_digits zero n = []
last_digits (suc k) n = last_digits k (n / 10) ++ (48 + n % 10) ∷ []

-- digits without the zeros at their end
abbrev pub without_last_zeros : List ℕ → List ℕ
without_last_zeros [] = []
without_last_zeros (digit ∷ digits) = if list_all (λ d. d == 48) (digit ∷ digits) then [] else digit ∷ without_last_zeros digits

-- nanoseconds as a fraction of a second: a point and nine digits without the zeros at their end, or nothing
unfoldable pub fraction : ℕ → List ℕ
fraction nanos = if nanos == 0 then [] else codes "." ++ without_last_zeros (last_digits 9 nanos)

-- the three letters of a day of the week, from 0 for Saturday
unfoldable pub day_name : ℕ → List ℕ
day_name weekday =
    slice_index_or (codes "Sat" ∷ codes "Sun" ∷ codes "Mon" ∷ codes "Tue" ∷ codes "Wed" ∷ codes "Thu" ∷ codes "Fri" ∷ []) weekday []

-- the three letters of a month, from 1 for January
unfoldable pub month_name : ℕ → List ℕ
month_name month =
    slice_index_or (codes "" ∷ codes "Jan" ∷ codes "Feb" ∷ codes "Mar" ∷ codes "Apr" ∷ codes "May" ∷ codes "Jun"
    ∷ codes "Jul" ∷ codes "Aug" ∷ codes "Sep" ∷ codes "Oct" ∷ codes "Nov" ∷ codes "Dec" ∷ []) month []

-- four digits
abbrev pub year_of : Civil → List ℕ
year_of c = two_digits (c.year / 100) ++ two_digits c.year

-- `HH:MM:SS`
abbrev pub time_of_day : Civil → List ℕ
time_of_day c = two_digits c.hour ++ codes ":" ++ two_digits c.minute ++ codes ":" ++ two_digits c.second

-- `YYYY-MM-DDTHH:MM:SS`, the fraction, `Z`
unfoldable pub date_time_of : Civil → ℕ → List ℕ
date_time_of c nanos =
    year_of c ++ codes "-" ++ two_digits c.month ++ codes "-" ++ two_digits c.day ++ codes "T" ++ time_of_day c ++ fraction nanos ++ codes "Z"

-- `Mon, 16 Dec 2019 23:48:18 GMT`
unfoldable pub http_date_of : Civil → ℕ → List ℕ
http_date_of c weekday =
    day_name weekday ++ codes ", " ++ two_digits c.day ++ codes " " ++ month_name c.month ++ codes " " ++ year_of c ++ codes " " ++ time_of_day c ++ codes " GMT"

-- so many nanoseconds, as the decimal number of seconds
unfoldable pub seconds_of : ℤ → List ℕ
seconds_of nanos = let size = unsigned_abs nanos in
    sign_text (is_negative nanos) ++ decimal (size / 1000000000) ++ fraction (size % 1000000000)

-- the text of a moment, where it has one
unfoldable pub formatted : Format → Instant → List ℕ
formatted DateTime t = date_time_of (civil_of t) t.nanos
formatted HttpDate t = http_date_of (civil_of t) (weekday t)
formatted EpochSeconds t = seconds_of (total_nanos t)

-- the moment has a text of this form
abbrev pub HasText : Format → Instant → Type 0
HasText EpochSeconds t = Unit {0}
HasText _ t = IsInYears t

-- the text where there is one, else `OutOfRange`; or memory ran out
abbrev pub Formats : Format → Instant → Result (String Global) FormatFault → Type 0
Formats format t (Ok text) = HasText format t × (string_bytes text ≡ formatted format t)
Formats format t (Err OutOfRange) = HasText format t → ⊥
Formats format t (Err NoMemory) = Unit {0}

-- what a fault of a format prints
abbrev pub format_fault_text : FormatFault → List ℕ
format_fault_text OutOfRange = codes "the moment lies outside the years 0 to 9999"
format_fault_text NoMemory = codes "no memory"
