-- A moment, read back from its stamp.
use Rattle.std.proofs.Common.{◌≡◌, ℕ, ◌+◌, ◌*◌, ◌/◌, ◌%◌, ◌<◌, ◌≤◌, List, length, take, drop, Some, None, refl, sym, ap, ◌∙◌, arith, ℤ, pos}
use Rattle.std.proofs.Common.{to_z, w8, w16}
use Rattle.std.proofs.lemmas.Int.{to_z_pos}
use Rattle.jiff_core.specs.Calendar.{IsDate}
use Rattle.jiff_core.proofs.SignedLemmas.{signed_arith}
use Rattle.jiff_core.proofs.CalendarLemmas.{days_from_civil-day_count}
use Rattle.smithy_core.specs.Civil.{IsInYears, civil_after, civil_of, stamp, year_seconds}
use Rattle.smithy_core.specs.CivilText.{FitsDigits, date_of, stamp_of, two_digits}
use Rattle.smithy_core.specs.Moment.{Instant}
use Rattle.smithy_core.specs.declared.civil_text.Civil.{Civil}
use Rattle.smithy_core.proofs.DayLemmas.{civil_fits, day_after_is, first_count, since_first, year_bound}
use Rattle.request_check.specs.Stamped.{FindsMoment, IsTwoDigits, IsOnlyCivil, IsShortDate, IsWholeSecond, ReadsStamp, at_civil}

-- the second at the date and the time of day of a moment is the moment's
pub seconds_back : (t : Instant) → IsInYears t → (at_civil (civil_of t)).secs ≡ t.secs
unfolding civil_of civil_after
seconds_back t is =
    let days = year_seconds t / 86400 in
    let since = since_first t is in
    let begun = days_from_civil-day_count (pos 0) 1 1 in
    let after = (day_after_is days).number_is in
    omega (arith, signed_arith, since, begun, first_count, after)

-- the calendar has the date of a moment
pub dated : (t : Instant) → IsInYears t → IsDate (pos (civil_of t).year) (pos (civil_of t).month) (pos (civil_of t).day)
unfolding civil_of civil_after
dated t is =
    let days = year_seconds t / 86400 in
    let since = since_first t is in
    let small : days ≤ 3652424 = omega (arith, signed_arith, since, is.1) in
    let day = (day_after_is days).is_day in
    let bound = year_bound days small in (
      (omega (arith, signed_arith), omega (arith, signed_arith, bound)),
      (omega (arith, signed_arith, day.month_low), omega (arith, signed_arith, day.month_high)),
      (omega (arith, signed_arith, day.day_low), omega (arith, signed_arith, day.day_high)),
    )

-- and it has it too as the numbers with a sign that a date is made of
pub dated_signed : (civil : Civil) → IsShortDate civil → (t : Instant) → IsInYears t → civil_of t ≡ civil
    → IsDate (to_z w16 civil.year) (to_z w8 civil.month) (to_z w8 civil.day)
dated_signed civil short t is same =
    rw (to_z_pos w16 civil.year (omega (arith, short.year)), to_z_pos w8 civil.month (omega (arith, short.month)), to_z_pos w8 civil.day (omega (arith, short.day)))
    (rw same at (dated t is))

instant : ℤ → ℕ → Instant
instant secs nanos = record { secs = secs; nanos = nanos }

-- a whole second is that at its date and its time of day
pub whole_back : (t : Instant) → IsWholeSecond t → t ≡ at_civil (civil_of t)
unfolding instant
whole_back t is = ap (λ (secs : ℤ). instant secs t.nanos) (sym (seconds_back t is.in_years)) ∙ ap (instant (at_civil (civil_of t)).secs) is.whole

-- ---- digits

-- the digits of the numbers, two by two
pub record HasDigits (c : Civil) (text : List ℕ) : Type 0 where
  pub century : two_digits (c.year / 100) ≡ take 2 text
  pub year : two_digits c.year ≡ take 2 (drop 2 text)
  pub month : two_digits c.month ≡ take 2 (drop 4 text)
  pub day : two_digits c.day ≡ take 2 (drop 6 text)
  pub hour : two_digits c.hour ≡ take 2 (drop 9 text)
  pub minute : two_digits c.minute ≡ take 2 (drop 11 text)
  pub second : two_digits c.second ≡ take 2 (drop 13 text)

pub digits : (c : Civil) (text : List ℕ) → stamp_of c ≡ text → HasDigits c text
unfolding stamp_of date_of
digits c text e = record {
  century = ap (λ (t : List ℕ). take 2 t) e;
  year = ap (λ (t : List ℕ). take 2 (drop 2 t)) e;
  month = ap (λ (t : List ℕ). take 2 (drop 4 t)) e;
  day = ap (λ (t : List ℕ). take 2 (drop 6 t)) e;
  hour = ap (λ (t : List ℕ). take 2 (drop 9 t)) e;
  minute = ap (λ (t : List ℕ). take 2 (drop 11 t)) e;
  second = ap (λ (t : List ℕ). take 2 (drop 13 t)) e;
}

-- the last two digits of a number are those of its rest
pub last_digits : (n : ℕ) → two_digits (n % 100) ≡ two_digits n
last_digits n = rw (tens, ones) refl
  where
    tens : n % 100 / 10 % 10 ≡ n / 10 % 10
    tens = omega arith

    ones : n % 100 % 10 ≡ n % 10
    ones = omega arith

-- the last digits of a year are those of its century and of its place in it
century_digits : (n : ℕ) → n < 10000 → (century place : ℕ) → n / 100 ≡ century → n % 100 ≡ place → n ≡ century * 100 + place
century_digits n small century place c p = omega (arith, c, p)

same_digits : (m n : ℕ) → m < 100 → n < 100 → two_digits m ≡ two_digits n → m ≡ n
same_digits m n low high e = grind (arith, e)

civil : ℕ → ℕ → ℕ → ℕ → ℕ → ℕ → Civil
civil year month day hour minute second = record { year = year; month = month; day = day; hour = hour; minute = minute; second = second }

-- the numbers at their places in a text are those of a date and a time of day with this stamp
pub read_back : (c : Civil) (text : List ℕ) (century year month day hour minute second : ℕ)
    → IsTwoDigits (take 2 text) century → IsTwoDigits (take 2 (drop 2 text)) year → IsTwoDigits (take 2 (drop 4 text)) month → IsTwoDigits (take 2 (drop 6 text)) day
    → IsTwoDigits (take 2 (drop 9 text)) hour → IsTwoDigits (take 2 (drop 11 text)) minute → IsTwoDigits (take 2 (drop 13 text)) second
    → FitsDigits c → stamp_of c ≡ text
    → c ≡ record { year = century * 100 + year; month = month; day = day; hour = hour; minute = minute; second = second }
unfolding civil
read_back c text century year month day hour minute second is_c is_y is_m is_d is_h is_n is_s fits e =
    let has = digits c text e in
    let c_is : c.year / 100 ≡ century = is_c.1 (c.year / 100) (omega (arith, fits.year)) has.century in
    let y_is : c.year % 100 ≡ year = is_y.1 (c.year % 100) (omega arith) (last_digits c.year ∙ has.year) in
    let whole : c.year ≡ century * 100 + year = century_digits c.year fits.year century year c_is y_is in
    let m_is : c.month ≡ month = is_m.1 c.month (omega (arith, fits.month_high)) has.month in
    let d_is : c.day ≡ day = is_d.1 c.day fits.day has.day in
    let h_is : c.hour ≡ hour = is_h.1 c.hour fits.hour has.hour in
    let n_is : c.minute ≡ minute = is_n.1 c.minute fits.minute has.minute in
    let s_is : c.second ≡ second = is_s.1 c.second fits.second has.second in
    ap (λ (z : ℕ). civil z c.month c.day c.hour c.minute c.second) whole
    ∙ (ap (λ (z : ℕ). civil (century * 100 + year) z c.day c.hour c.minute c.second) m_is
    ∙ (ap (λ (z : ℕ). civil (century * 100 + year) month z c.hour c.minute c.second) d_is
    ∙ (ap (λ (z : ℕ). civil (century * 100 + year) month day z c.minute c.second) h_is
    ∙ (ap (λ (z : ℕ). civil (century * 100 + year) month day hour z c.second) n_is
    ∙ ap (λ (z : ℕ). civil (century * 100 + year) month day hour minute z) s_is))))

pub stamp_length : (c : Civil) → length (stamp_of c) ≡ 16
unfolding stamp_of date_of
stamp_length c = refl

pub stamped_length : (t : Instant) → length (stamp t) ≡ 16
unfolding stamp
stamped_length t = stamp_length (civil_of t)

digit_number : (n : ℕ) → n < 100 → IsTwoDigits (two_digits n) n
digit_number n small = (small, λ m low e. same_digits m n low small e)

same_civil : (c d : Civil) → FitsDigits c → FitsDigits d → stamp_of c ≡ stamp_of d → c ≡ d
unfolding stamp_of date_of civil
same_civil c d fits_c fits_d e =
    read_back c (stamp_of d) (d.year / 100) (d.year % 100) d.month d.day d.hour d.minute d.second
    (digit_number (d.year / 100) (omega (arith, fits_d.year)))
    (rw (sym (last_digits d.year)) (digit_number (d.year % 100) (omega arith)))
    (digit_number d.month (omega (arith, fits_d.month_high))) (digit_number d.day fits_d.day) (digit_number d.hour fits_d.hour)
    (digit_number d.minute fits_d.minute) (digit_number d.second fits_d.second) fits_c e
    ∙ ap (λ (z : ℕ). civil z d.month d.day d.hour d.minute d.second) (sym (century_digits d.year fits_d.year (d.year / 100) (d.year % 100) refl refl))

-- whole seconds with the same stamp are the same
pub stamped_once : (t u : Instant) → IsWholeSecond t → IsWholeSecond u → stamp t ≡ stamp u → t ≡ u
unfolding stamp
stamped_once t u a b e =
    whole_back t a ∙ ap at_civil (same_civil (civil_of t) (civil_of u) (civil_fits t a.in_years) (civil_fits u b.in_years) e) ∙ sym (whole_back u b)

-- a text of another length is no stamp
pub unstamped_length : (text : List ℕ) → (length text ≡ 16 → ⊥) → ReadsStamp text None
unstamped_length text other = λ t is e. other (ap length (sym e) ∙ stamped_length t)

-- nor is one whose date and time are no moment's
pub unstamped_none : (text : List ℕ) (civil : Civil) → IsOnlyCivil text civil → FindsMoment civil None → ReadsStamp text None
unfolding stamp
unstamped_none text civil only none = λ t is e. none t is.in_years (only (civil_of t) (civil_fits t is.in_years) e)

-- nor one whose date and time are those of a moment with another stamp
pub unstamped_other : (text : List ℕ) (civil : Civil) (moment : Instant) → IsOnlyCivil text civil → FindsMoment civil (Some moment)
    → (IsInYears moment → stamp moment ≡ text → ⊥) → ReadsStamp text None
unfolding stamp
unstamped_other text civil moment only found other = λ t is e.
    let same : t ≡ moment = whole_back t is ∙ (ap at_civil (only (civil_of t) (civil_fits t is.in_years) e) ∙ sym found) in
    (rw (sym same) at other) is.in_years e
