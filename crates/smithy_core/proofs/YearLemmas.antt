-- The test of the years and what it says.
use Rattle.std.proofs.Common.{◌≡◌, true, false, arith}
use Rattle.std.proofs.lemmas.Bool.Decides.{nat_tests}
use Rattle.std.proofs.lemmas.Int.{ints}
use Rattle.smithy_core.specs.Civil.{IsInYears, is_in_years}
use Rattle.smithy_core.specs.Moment.{Instant}

pub in_years : (t : Instant) → is_in_years t ≡ true → IsInYears t
in_years t is = grind (arith, ints, nat_tests)

pub years_in : (t : Instant) → IsInYears t → is_in_years t ≡ true
years_in t years = grind (arith, ints, nat_tests)

pub years_out : (t : Instant) → (IsInYears t → ⊥) → is_in_years t ≡ false
years_out t never = grind (arith, ints, nat_tests)
