-- Data that is read piece by piece into a hasher.
use Rattle.std.proofs.Common.{ℕ, ◌≤◌, ◌-◌, ◌^◌, List, [], length, Option, arith}
use Rattle.sha2.specs.Hashers.{Holds256}
use Rattle.sha2.specs.declared.Sha256.{Sha256}
use Rattle.smithy_core.proofs.CutLemmas.{cut_at_start}
use Rattle.smithy_core.specs.Outside.{IsCutOf}
use Rattle.awsign_run.specs.Signing.{GivesNoEnd}

-- the hasher holds what was read of all there was, so many bytes at least
abbrev pub HoldsRead : ℕ → Option (List ℕ) → Option (List ℕ) → Sha256 → Type 0
HoldsRead count all now hasher = (bytes : List ℕ) × IsCutOf all bytes now × Holds256 hasher bytes × (count ≤ length bytes)

-- before any read
pub read_none : (left : Option (List ℕ)) (hasher : Sha256) → Holds256 hasher [] → HoldsRead 0 left left hasher
read_none left hasher holds = ([], cut_at_start left, holds, omega arith)

-- so many reads took no end
pub no_end : (all now : Option (List ℕ)) (hasher : Sha256) → HoldsRead (2 ^ 64 - 1) all now hasher → GivesNoEnd all now
no_end all now hasher held = (held.0, held.1, held.3)
