-- Moments have one date exactly where they lie on one day.
use Rattle.std.proofs.Common.{◌≡◌, ℕ, ◌==◌, List, ◌++◌, slice_index, ap, ◌∙◌, refl, sym, arith, ℤ, pos, ◌/◌, ◌+ℤ◌}
use Rattle.std.specs.Prelude.{◌-ℤ◌, bytes_eq, unsigned_abs}
use Rattle.std.proofs.Math.IntN.{+ℤ-neg_ℤ_cancel, +ℤ_comm}
use Rattle.std.proofs.lemmas.Slice.Eq.{bytes_eq-Decides}
use Rattle.std.proofs.lemmas.Bool.Decides.{Decides-eqb, Decides-like, same_from_decides}
use Rattle.smithy_core.specs.Civil.{Day, IsInYears, civil_after, civil_of, date, day_after, day_number}
use Rattle.smithy_core.specs.CivilText.{FitsDigits, date_of, two_digits}
use Rattle.smithy_core.specs.Moment.{Instant}
use Rattle.smithy_core.specs.declared.civil_text.Civil.{Civil}
use Rattle.smithy_core.proofs.DayLemmas.{civil_fits, day_after_is, number}

cancelled : (a b k : ℤ) → k +ℤ a ≡ k +ℤ b → a ≡ b
cancelled a b k same = sym (+ℤ-neg_ℤ_cancel a k) ∙ ap (λ z. z -ℤ k) (+ℤ_comm a k ∙ same ∙ +ℤ_comm k b) ∙ +ℤ-neg_ℤ_cancel b k

-- days have one number
same_after : (n m : ℕ) → day_after n ≡ day_after m → n ≡ m
same_after n m same = ap unsigned_abs (cancelled (pos n) (pos m) _ (sym (day_after_is n).number_is ∙ ap number same ∙ (day_after_is m).number_is))

-- the day of a date
abbrev day_of : Civil → Day
day_of c = record { year = c.year; month = c.month; day = c.day }

-- dates with one text are one day
same_text : (c d : Civil) → FitsDigits c → FitsDigits d → date_of c ≡ date_of d → day_of c ≡ day_of d
unfolding date_of
same_text c d fits other same =
    let at : (i : ℕ) → slice_index (date_of c) i ≡ slice_index (date_of d) i = λ i. ap (λ (text : List ℕ). slice_index text i) same in
    let year : c.year ≡ d.year = omega (arith, at 0, at 1, at 2, at 3, fits.year, other.year) in
    let month : c.month ≡ d.month = omega (arith, at 4, at 5, fits.month_high, other.month_high) in
    let day : c.day ≡ d.day = omega (arith, at 6, at 7, fits.day, other.day) in
    λ i. record { year = year i; month = month i; day = day i }

-- the day of a moment, by its number
day_is : (t : Instant) → day_of (civil_of t) ≡ day_after (day_number t)
unfolding civil_of civil_after
day_is t = refl

-- moments of one date lie on one day
pub date_day : (t u : Instant) → IsInYears t → IsInYears u → date t ≡ date u → day_number t ≡ day_number u
unfolding date
date_day t u is other same =
    same_after (day_number t) (day_number u) (sym (day_is t) ∙ same_text (civil_of t) (civil_of u) (civil_fits t is) (civil_fits u other) same ∙ day_is u)

-- moments of one day have one date
pub day_date : (t u : Instant) → day_number t ≡ day_number u → date t ≡ date u
unfolding date civil_of civil_after date_of
day_date t u same =
    ap (λ (n : ℕ). let day = day_after n in two_digits (day.year / 100) ++ two_digits day.year ++ two_digits day.month ++ two_digits day.day) same

-- the numbers of two days are the same exactly where the dates are
pub same_day : (t u : Instant) → IsInYears t → IsInYears u → (day_number t == day_number u) ≡ bytes_eq (date t) (date u)
same_day t u is other =
    let days = Decides-eqb (day_number t) (day_number u) in
    same_from_decides _ _ (Decides-like _ (day_date t u) (date_day t u is other) days) (bytes_eq-Decides (date t) (date u))
