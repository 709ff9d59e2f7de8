use Rattle.std.proofs.Common.{◌≡◌, ℕ, zero, suc, ◌+◌, ◌/◌, ◌<◌, ◌≤◌, inl, inr, refl, arith, ℤ, pos, ◌+ℤ◌, true, false, Bool, cond, nat_lt}
use Rattle.std.specs.Prelude.{negsuc, unsigned_abs, ◌≤ℤ◌}
use Rattle.std.proofs.lemmas.Bool.{cases_order, ltb-false, ltb-true}
use Rattle.jiff_core.specs.declared.civil.date.Date.{Date}
use Rattle.jiff_core.specs.Calendar.{days_from_civil, days_in_month, day_count, days_of_years, days_of_months}
use Rattle.jiff_core.specs.Date.{epoch_day}
use Rattle.jiff_core.proofs.SignedLemmas.{signed_arith}
use Rattle.jiff_core.proofs.CalendarLemmas.{days_from_civil-day_count, day_count-lt_year, days_in_month_bounds}
use Rattle.jiff_core.proofs.DateLemmas.{days_from_civil-day, days_from_civil-next_month, days_from_civil-next_year, epoch_day_injective}
use Rattle.smithy_core.specs.Civil.{Day, IsInYears, civil_after, civil_of, day_after, next_day, year_seconds}
use Rattle.smithy_core.specs.CivilText.{FitsDigits}
use Rattle.smithy_core.specs.Moment.{Instant}

-- the calendar has the day
pub record IsDay (d : Day) : Type 0 where
  pub month_low : 1 ≤ d.month
  pub month_high : d.month ≤ 12
  pub day_low : 1 ≤ d.day
  pub day_high : d.day ≤ days_in_month (pos d.year) d.month

abbrev pub number : Day → ℤ
number d = days_from_civil (pos d.year) d.month d.day

pub record Follows (d next : Day) : Type 0 where
  pub is_day : IsDay next
  pub number_is : number next ≡ number d +ℤ pos 1

next_in_month : (d : Day) → IsDay d → d.day < days_in_month (pos d.year) d.month → Follows d (record d { day = d.day + 1 })
next_in_month d is lt =
    let n = days_from_civil-day (pos d.year) d.month (d.day + 1) d.day (omega arith) is.day_low in
    record {
      is_day = record { month_low = is.month_low; month_high = is.month_high; day_low = omega arith; day_high = omega arith };
      number_is = omega (arith, signed_arith, n);
    }

next_month_is : (d : Day) → IsDay d → d.day ≡ days_in_month (pos d.year) d.month → d.month < 12 → Follows d (record { year = d.year; month = d.month + 1; day = 1 })
next_month_is d is last lt =
    let long = days_in_month_bounds (pos d.year) (d.month + 1) in
    record {
      is_day = record { month_low = omega arith; month_high = omega arith; day_low = omega arith; day_high = omega (arith, long.1) };
      number_is = days_from_civil-next_month (pos d.year) d.month d.day is.month_low last;
    }

next_year_is : (d : Day) → IsDay d → d.day ≡ days_in_month (pos d.year) d.month → d.month ≡ 12 → Follows d (record { year = d.year + 1; month = 1; day = 1 })
next_year_is d is last december =
    let long = days_in_month_bounds (pos (d.year + 1)) 1 in
    let thirty_one : d.day ≡ 31 = rw december at last in
    let step = days_from_civil-next_year (pos d.year) (pos (d.year + 1)) (omega (arith, signed_arith)) (omega (arith, signed_arith)) in
    record {
      is_day = record { month_low = omega arith; month_high = omega arith; day_low = omega arith; day_high = omega (arith, long.1) };
      number_is = rw (december, thirty_one) step;
    }

-- the last day of a month
after_last : (d : Day) → IsDay d → d.day ≡ days_in_month (pos d.year) d.month → (b : Bool) → nat_lt d.month 12 ≡ b
    → Follows d (cond b (record { year = d.year; month = d.month + 1; day = 1 }) (record { year = d.year + 1; month = 1; day = 1 }))
after_last d is last true e = next_month_is d is last (ltb-true d.month 12 e)
after_last d is last false e = next_year_is d is last (omega (arith, ltb-false d.month 12 e, is.month_high))

after_any : (d : Day) → IsDay d → (b : Bool) → nat_lt d.day (days_in_month (pos d.year) d.month) ≡ b
    → Follows d (cond b (record d { day = d.day + 1 }) (cond (nat_lt d.month 12) (record { year = d.year; month = d.month + 1; day = 1 }) (record { year = d.year + 1; month = 1; day = 1 })))
after_any d is true e = next_in_month d is (ltb-true d.day (days_in_month (pos d.year) d.month) e)
after_any d is false e =
    after_last d is (omega (arith, ltb-false d.day (days_in_month (pos d.year) d.month) e, is.day_high)) (nat_lt d.month 12) refl

-- the next day is a day, and its number is one more
next_is : (d : Day) → IsDay d → Follows d (next_day d)
unfolding next_day
next_is d is = after_any d is (nat_lt d.day (days_in_month (pos d.year) d.month)) refl

-- 1 January of the year 0
abbrev first : ℤ
first = days_from_civil (pos 0) 1 1

pub record IsAfter (n : ℕ) (d : Day) : Type 0 where
  pub is_day : IsDay d
  pub number_is : number d ≡ first +ℤ pos n

pub day_after_is : (n : ℕ) → IsAfter n (day_after n)
unfolding day_after
day_after_is zero = record { is_day = record { month_low = omega arith; month_high = omega arith; day_low = omega arith; day_high = omega arith }; number_is = omega (arith, signed_arith) }
day_after_is (suc n) =
    let before = day_after_is n in
    let step = next_is (day_after n) before.is_day in
    record { is_day = step.is_day; number_is = omega (arith, signed_arith, before.number_is, step.number_is) }

pub first_count : day_count (pos 0) 1 1 ≡ 3652425
unfolding day_count days_of_years days_of_months
first_count = refl

last_is : day_count (pos 9999) 12 31 ≡ 7304849
unfolding day_count days_of_years days_of_months
last_is = refl

-- the years go to 9999
pub year_bound : (n : ℕ) → n ≤ 3652424 → (day_after n).year ≤ 9999
year_bound n small =
    let after = day_after_is n in
    let counted = days_from_civil-day_count (pos (day_after n).year) (day_after n).month (day_after n).day in
    let begun = days_from_civil-day_count (pos 0) 1 1 in
    elim (cases_order (day_after n).year 9999) [
      | inl same ↦ omega arith
      | inr (inl lt) ↦ omega arith
      | inr (inr gt) ↦ absurd (let late = day_count-lt_year (pos 9999) 12 31 (pos (day_after n).year) (day_after n).month (day_after n).day
          ((omega (arith, signed_arith), omega (arith, signed_arith)), (omega arith, omega arith), (omega arith, omega arith)) after.is_day.day_low (omega (arith, signed_arith, gt)) in
          omega (arith, signed_arith, counted, begun, first_count, last_is, late, after.number_is))
    ]

-- the day as a date of the calendar
pub date_of : (n : ℕ) → n ≤ 3652424 → Date
date_of n small =
    let after = day_after_is n in
    let bound = year_bound n small in
    record {
      year = pos (day_after n).year;
      month = (day_after n).month;
      day = (day_after n).day;
      year_in = (omega (arith, signed_arith), omega (arith, signed_arith));
      month_in = (after.is_day.month_low, after.is_day.month_high);
      day_in = (after.is_day.day_low, after.is_day.day_high);
    }

-- a date with the number of the day is that day
pub date_is : (n : ℕ) → n ≤ 3652424 → (d : Date) → epoch_day d +ℤ pos 4371587 ≡ pos (n + 3652059)
    → (d.year ≡ pos (day_after n).year) × (d.month ≡ (day_after n).month) × (d.day ≡ (day_after n).day)
unfolding date_of
date_is n small d e =
    let after = day_after_is n in
    let begun = days_from_civil-day_count (pos 0) 1 1 in
    let same : epoch_day (date_of n small) ≡ number (day_after n) = refl in
    epoch_day_injective d (date_of n small) (omega (arith, signed_arith, e, after.number_is, begun, first_count, same))

natural : (z : ℤ) → pos 0 ≤ℤ z → pos (unsigned_abs z) ≡ z
natural (pos n) low = refl
natural (negsuc n) low = absurd (omega (arith, signed_arith, low))

-- the seconds of a moment in the years, counted from their start
pub since_first : (t : Instant) → IsInYears t → pos (year_seconds t) ≡ t.secs +ℤ pos 62167219200
since_first t is = natural (t.secs +ℤ pos 62167219200) (omega (arith, signed_arith, is.0))

-- the numbers of a moment in the years
pub civil_fits : (t : Instant) → IsInYears t → FitsDigits (civil_of t)
unfolding civil_of civil_after
civil_fits t is =
    let days = year_seconds t / 86400 in
    let small : days ≤ 3652424 = omega (arith, signed_arith, since_first t is, is.1) in
    let day = (day_after_is days).is_day in
    let long = days_in_month_bounds (pos (day_after days).year) (day_after days).month in
    record {
      year = omega (arith, year_bound days small);
      month_low = day.month_low;
      month_high = day.month_high;
      day = omega (arith, day.day_high, long.0);
      hour = omega arith;
      minute = omega arith;
      second = omega arith;
    }
