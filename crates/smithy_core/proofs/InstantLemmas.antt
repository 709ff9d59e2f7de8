-- A moment, read back from its whole milliseconds.
use Rattle.std.proofs.Common.{◌≡◌, ℕ, ◌/◌, ◌<◌, ℤ, pos, ◌+ℤ◌, ◌*ℤ◌, refl, arith}
use Rattle.std.specs.Int.{int_div_euclid, int_rem_euclid}
use Rattle.jiff_core.proofs.SignedLemmas.{signed_arith}
use Rattle.smithy_core.specs.Moment.{Instant, at_ms, floor_ms, floored}

whole_secs : (secs : ℤ) (ms : ℕ) → ms < 1000 → int_div_euclid (secs *ℤ pos 1000 +ℤ pos ms) (pos 1000) ≡ secs
whole_secs secs ms below = omega (arith, signed_arith)

ms_after : (secs : ℤ) (ms : ℕ) → ms < 1000 → int_rem_euclid (secs *ℤ pos 1000 +ℤ pos ms) (pos 1000) ≡ pos ms
ms_after secs ms below = omega (arith, signed_arith)

-- the moment of a moment's whole milliseconds is that moment, floored to them
pub at_ms-floor_ms : (t : Instant) → t.nanos < 1000000000 → at_ms (floor_ms t) ≡ floored t
at_ms-floor_ms t below = rw (whole_secs t.secs (t.nanos / 1000000) (omega arith), ms_after t.secs (t.nanos / 1000000) (omega arith)) refl
