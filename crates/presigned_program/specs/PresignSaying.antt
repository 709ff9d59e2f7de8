-- What a check of a presigned URL says of its end.
use Rattle.std.specs.Prelude.{◌≡◌, ℕ, ◌⊎◌, List, ◌++◌, codes, Option}
use Rattle.smithy_core.specs.Outside.{Gains, GainsPrefix, GainsProperPrefix, RoseOrStands}
use Rattle.smithy_core.specs.Text.{line}
use Rattle.signed_stream.specs.Saying.{ending_line}
use Rattle.signed_stream.specs.Status.{done, no_memory}
use Rattle.presigned_program.specs.PresignStatus.{PresignEnding, ends, fails, presign_fault_name}

-- the line of an end, and nothing where the check is done; of a fault it has the name alone, so no signature
abbrev pub presign_line : PresignEnding → List ℕ
presign_line (ends end) = ending_line end
presign_line (fails fault) = line (codes "check failed " ++ presign_fault_name fault)

-- what `err` gained of a line: all of it, or, where the faults of `err` rose, a prefix of it
abbrev pub GainsLine : List ℕ → Option (List ℕ) → Option (List ℕ) → ℕ → ℕ → Type 0
GainsLine text before now faults_before faults_now = Gains before now text ⊎ (GainsProperPrefix before now text × RoseOrStands faults_before faults_now)

-- what `err` gained: nothing where the check is done, a prefix of the line of some end where memory ran out, and else the line of the end
abbrev pub SaysPresigned : PresignEnding → Option (List ℕ) → Option (List ℕ) → ℕ → ℕ → Type 0
SaysPresigned (ends done) before now faults_before faults_now = now ≡ before
SaysPresigned (ends no_memory) before now faults_before faults_now = (end : PresignEnding) × GainsPrefix before now (presign_line end)
SaysPresigned end before now faults_before faults_now = GainsLine (presign_line end) before now faults_before faults_now
