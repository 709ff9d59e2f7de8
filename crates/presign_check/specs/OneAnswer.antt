-- A presigned request has one answer.
use Rattle.std.specs.Prelude.{◌≡◌, ◌⊎◌, Result, Ok, Err, ℤ, string_bytes}
use Rattle.presign_check.specs.Presigned.{ChecksPresigned, PresignInput}
use Rattle.presign_check.specs.declared.fault.PresignFault.{PresignFault}
use Rattle.presign_check.specs.declared.fault.PresignFault.TheVariants.{Mismatch, NoMemory}

-- the faults are the same, and so are the two signatures of a mismatch
abbrev pub IsSameTest : PresignFault → PresignFault → Type 0
IsSameTest (Mismatch carried recomputed) (Mismatch other_carried other_recomputed) =
    (string_bytes other_carried ≡ string_bytes carried) × (string_bytes other_recomputed ≡ string_bytes recomputed)
IsSameTest fault other = other ≡ fault

-- the answers are the same, unless memory ran out
abbrev pub IsSameAnswer : Result ℤ PresignFault → Result ℤ PresignFault → Type 0
IsSameAnswer (Ok until) (Ok other) = other ≡ until
IsSameAnswer (Ok until) (Err other) = other ≡ NoMemory
IsSameAnswer (Err fault) (Ok other) = fault ≡ NoMemory
IsSameAnswer (Err fault) (Err other) = IsSameTest fault other ⊎ ((fault ≡ NoMemory) ⊎ (other ≡ NoMemory))

-- what is answered of a request is the same each time
abbrev pub HasOneAnswer : PresignInput → Type 0
HasOneAnswer asked = (answer other : Result ℤ PresignFault) → ChecksPresigned asked answer → ChecksPresigned asked other → IsSameAnswer answer other
