-- A signing key is that of a date, and the lines of a string to sign those of a second.
use Rattle.std.proofs.Common.{◌≡◌, ℕ, List, refl}
use Rattle.smithy_core.specs.Civil.{civil_of, date, stamp}
use Rattle.smithy_core.specs.Moment.{Instant, floor_secs}
use Rattle.eventstream.specs.Key.{Signer, scope, signing_key}
use Rattle.eventstream.specs.Link.{payload_lines}

-- the nanoseconds of a moment change nothing
pub key_floored : (signer : Signer) (t : Instant) → signing_key signer t ≡ signing_key signer (floor_secs t)
unfolding signing_key date civil_of
key_floored signer t = refl

pub lines_floored : (t : Instant) (region name : List ℕ) → payload_lines t region name ≡ payload_lines (floor_secs t) region name
unfolding stamp scope date civil_of
lines_floored t region name = refl
