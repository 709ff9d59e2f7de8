-- Seconds in the years 0 to 9999.
use Rattle.std.proofs.Common.{◌≡◌, false, ℤ, FitsSigned, w64, arith}
use Rattle.std.proofs.lemmas.Int.{ints}
use Rattle.smithy_core.specs.Civil.{IsInYears, is_in_years}
use Rattle.smithy_core.proofs.YearLemmas.{years_out}
use Rattle.sigv4.specs.SecondHasher.{at_second}

-- a second in the years fits 64 bits
years_fit : (secs : ℤ) → IsInYears (at_second secs) → FitsSigned w64 secs
years_fit secs years = grind (arith, ints)

-- a second that doesn't fit 64 bits lies in no year
pub unfit_years : (secs : ℤ) → (FitsSigned w64 secs → ⊥) → is_in_years (at_second secs) ≡ false
unfit_years secs unfit = years_out (at_second secs) (λ years. unfit (years_fit secs years))
