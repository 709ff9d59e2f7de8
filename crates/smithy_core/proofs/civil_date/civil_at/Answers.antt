use Rattle.std.proofs.Common.{◌≡◌, ◌≤◌, ◌/◌, refl, ap, arith, ◌∙◌, FitsSigned, w16}
use Rattle.std.specs.Prelude.{unsigned_abs}
use Rattle.std.proofs.lemmas.Int.{to_z-of_z}
use Rattle.jiff_core.proofs.SignedLemmas.{signed_arith}
use Rattle.smithy_core.specs.Civil.{civil_after, day_after}
use Rattle.smithy_core.proofs.DayLemmas.{date_is}
use Rattle.smithy_core.proofs.civil_date.civil_at.Goals as goal

pub returns : goal.returns
unfolding civil_after
returns c =
    let days = c.args.since / 86400 in
    let small : days ≤ 3652424 = omega arith in
    let date = c.from_days_since_min-date.result in
    let is = date_is days small date c.from_days_since_min-date.ensures in
    let low = date.year_in.0 in
    let high = date.year_in.1 in
    let fits : FitsSigned w16 date.year = omega (arith, signed_arith) in
    let back = simp to_z-of_z at c.unsigned_abs.ensures.value in
    let year : c.unsigned_abs.result ≡ (day_after days).year = back ∙ ap unsigned_abs is.0 in
    let month : date.month ≡ (day_after days).month = is.1 in
    let day : date.day ≡ (day_after days).day = is.2 in
    rw (year, month, day) refl
