-- The host is among the headers that can be signed.
use Rattle.std.proofs.Common.{◌≡◌, ℕ, Bool, true, false, cond, List, Option, Some, None, refl, sym}
use Rattle.sigv4.specs.Refusal.{unfit_host_text}
use Rattle.sigv4.specs.declared.error.SigningError.{SigningError}
use Rattle.sigv4.proofs.SetLemmas.{is_here}
use Rattle.request_check.proofs.SealLemmas.{absent}
use Rattle.request_check.proofs.SentLemmas.{layer}

-- a host that is fit is there: a header's, or that of the target
pub host_by : (has : Bool) (host : Option (List ℕ)) (values : List (List ℕ)) → has ≡ is_here values → cond {A = Option SigningError} has None (unfit_host_text host) ≡ None
    → is_here (layer true (cond {A = Option (List ℕ)} has None host) values) ≡ true
host_by true host values e fit = sym e
host_by false None values e fit = absurd (absent (sym fit))
host_by false (Some host) values e fit = refl
