-- What the writers promise.
use Rattle.std.specs.Prelude.{◌≡◌, ℕ, ◌⊎◌, List, ◌++◌, Option, Some, None, Result, Ok, Err}
use Rattle.mac_core.specs.Crc.{after_bytes, before_any}
use Rattle.eventstream.specs.declared.error.ErrorKind.{ErrorKind}
use Rattle.eventstream.specs.declared.error.ErrorKind.TheVariants.{InvalidHeaderNameLength, HeaderValueTooLong, TimestampValueTooLarge, HeadersTooLong, PayloadTooLong, MessageTooLong, NoMemory}
use Rattle.eventstream.specs.declared.error.Error.{Error}
use Rattle.eventstream.specs.Error.{error_kind}

-- with no fault the text is appended; with one nothing is, and the fault is told, or memory ran out
abbrev pub Writes : Option ErrorKind → List ℕ → List ℕ → List ℕ → Result (Unit {0}) Error → Type 0
Writes fault text old new (Ok _) = (fault ≡ None) × (new ≡ old ++ text)
Writes fault text old new (Err e) = ((fault ≡ Some (error_kind e)) ⊎ (error_kind e ≡ NoMemory)) × (new ≡ old)

-- the same, and the answer is the register of the checksum after the text
abbrev pub WritesSummed : Option ErrorKind → List ℕ → List ℕ → List ℕ → Result ℕ Error → Type 0
WritesSummed fault text old new (Ok checksum) = (fault ≡ None) × (new ≡ old ++ text) × (checksum ≡ after_bytes before_any text)
WritesSummed fault text old new (Err e) = Writes fault text old new (Err e)

-- a reason why a message has no frame
abbrev pub IsFrameFault : ErrorKind → Type 0
IsFrameFault InvalidHeaderNameLength = Unit {0}
IsFrameFault HeaderValueTooLong = Unit {0}
IsFrameFault (TimestampValueTooLarge moment) = Unit {0}
IsFrameFault HeadersTooLong = Unit {0}
IsFrameFault PayloadTooLong = Unit {0}
IsFrameFault MessageTooLong = Unit {0}
IsFrameFault kind = ⊥
