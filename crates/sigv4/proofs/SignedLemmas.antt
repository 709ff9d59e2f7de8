-- What goes out of a case makes its signed request.
use Rattle.std.proofs.Common.{◌≡◌, ℕ, true, not, List, Ok, Some, None, refl}
use Rattle.sigv4.specs.Instructions.{with_instructions}
use Rattle.sigv4.specs.Parameters.{AppliesTo, takes_no_more}
use Rattle.sigv4.specs.Refusal.{unfit_signed_target, unless}
use Rattle.sigv4.specs.Request.{Case}
use Rattle.sigv4.specs.Signed.{instructions, parameters, signed_headers, signed_target}
use Rattle.sigv4.specs.declared.error.SigningError.TheVariants.{InvalidUri}

pub headers-signed : (c : Case) → with_instructions c.headers (instructions c) ≡ signed_headers c
unfolding signed_headers
headers-signed c = refl

pub target-signed : (c : Case) (old new : List ℕ) → AppliesTo (parameters c) c.target old new (Ok tt) → (unfit_signed_target c ≡ None) × (new ≡ signed_target c old)
unfolding signed_target unfit_signed_target
target-signed c old new applies = ((λ i. unless (not (applies.0 i)) InvalidUri), applies.1)

pub target-refused : (c : Case) → takes_no_more (parameters c) c.target ≡ true → unfit_signed_target c ≡ Some InvalidUri
unfolding unfit_signed_target
target-refused c full = λ i. unless (not (full i)) InvalidUri

pub ruleset makes_signed = (headers-signed, target-signed, target-refused)
