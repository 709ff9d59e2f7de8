-- A number of seconds that was written in decimal digits is read back.
use Rattle.std.proofs.Common.{◌≡◌, ℕ, zero, suc, ◌^◌, ◌<◌, true, List, [], ◌∷◌, get_or, Option, Some, None, IfSome, refl, ap, arith}
use Rattle.std.specs.Fmt.{decimal}
use Rattle.std.specs.List.{list_all}
use Rattle.std.proofs.lemmas.Bool.Decides.{nat_tests}
use Rattle.std.proofs.lemmas.Fmt.{decimal_digit, digits_decimal, digits_value-decimal, first_decimal}
use Rattle.job_text.specs.Numbers.{is_digit, is_natural, natural_below}
use Rattle.job_text.proofs.NumberLemmas.{numerals}
use Rattle.sigv4.specs.Canonical.{expires_text}
use Rattle.request_check.specs.Sealed.{spelled_seconds}

-- digits of which the first isn't zero
natural_of : (text : List ℕ) → list_all is_digit text ≡ true → 48 < get_or text 0 0 → is_natural text ≡ true
natural_of [] digits first = absurd (omega arith)
natural_of (digit ∷ digits) all first = grind (arith, nat_tests)

natural_decimal : (n : ℕ) → n < 2 ^ 64 → is_natural (decimal n) ≡ true
natural_decimal zero fits = ap is_natural (decimal_digit 0 (omega arith))
natural_decimal (suc n) fits = natural_of (decimal (suc n)) (digits_decimal numerals (suc n) fits) (first_decimal (suc n) (omega arith) fits)

pub seconds_back : (n : ℕ) → n < 2 ^ 64 → spelled_seconds (decimal n) ≡ Some n
unfolding natural_below
seconds_back n fits =
    let natural = natural_decimal n fits in
    let value = digits_value-decimal numerals n fits in
    rw (natural, value) (grind (arith, nat_tests))

-- the expiry of a case is read back
pub expiry_back : (expires_in : Option ℕ) → IfSome expires_in (λ seconds. seconds < 2 ^ 64) → spelled_seconds (expires_text expires_in) ≡ expires_in
unfolding natural_below
expiry_back None fits = refl
expiry_back (Some seconds) fits = seconds_back seconds fits
