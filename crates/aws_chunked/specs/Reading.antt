-- What the steps of the reader of whole texts read, and where they stop.
use Rattle.std.specs.Prelude.{◌≡◌, ℕ, ◌+◌, ◌*◌, ◌<◌, ◌≤◌, ◌⊎◌, Bool, true, false, ◌||◌, List, [], ◌∷◌, ◌++◌, length, Option, Some, None, Result, Ok, Err, String, string_bytes}
use Rattle.std.specs.Borrow.{Bor}
use Rattle.std.specs.Fmt.{digit_glyph}
use Rattle.std.specs.Int.{is_in_range}
use Rattle.std.specs.declared.alloc.Global.{Global}
use Rattle.aws_chunked.specs.Decoded.{CanGoOn, IsSignature}
use Rattle.aws_chunked.specs.Text.{length_text}
use Rattle.aws_chunked.specs.declared.decode.fault.PartFault.{PartFault}
use Rattle.aws_chunked.specs.declared.decode.fault.PartFault.TheVariants.{Bad, NoMemory}

-- ## Where reading stops

-- a word, and whatever stands behind it
abbrev pub Led : (List ℕ → Type 0) → List ℕ → Type 0
Led IsWord bytes = (word more : List ℕ) × IsWord word × (bytes ≡ word ++ more)

-- behind the first bytes these don't go on: with the next byte they begin none, or they end and are none
abbrev pub RefusesNext : (List ℕ → Type 0) → List ℕ → List ℕ → Type 0
RefusesNext Is front [] = Is front → ⊥
RefusesNext Is front (byte ∷ back) = CanGoOn Is (front ++ byte ∷ []) → ⊥

-- the first bytes begin a word, and so many bytes are left that don't go on
abbrev pub Stops : (List ℕ → Type 0) → (List ℕ → Type 0) → List ℕ → ℕ → Type 0
Stops IsWord Is bytes left =
    (front back : List ℕ) × (bytes ≡ front ++ back) × (length back ≡ left) × CanGoOn IsWord front × RefusesNext Is front back

-- what a fault tells of bytes: where they stop, but where memory ran out
abbrev pub StopsWhere : (List ℕ → Type 0) → (List ℕ → Type 0) → List ℕ → PartFault → Type 0
StopsWhere IsWord Is bytes (Bad left) = Stops IsWord Is bytes left
StopsWhere IsWord Is bytes NoMemory = Unit {0}

-- ## Fixed bytes

abbrev pub Expects : List ℕ → List ℕ → Result (Bor (List ℕ)) PartFault → Type 0
Expects wanted bytes (Ok rest) = bytes ≡ wanted ++ rest.now
Expects wanted bytes (Err fault) = StopsWhere (λ word. word ≡ wanted) (Led (λ word. word ≡ wanted)) bytes fault

-- ## Lengths

-- a hexadecimal digit in upper case
abbrev pub is_length_digit : ℕ → Bool
is_length_digit byte = is_in_range 48 57 byte || is_in_range 65 70 byte

-- the value of a digit, and none of another byte
abbrev pub ReadsDigit : ℕ → Option ℕ → Type 0
ReadsDigit byte (Some digit) = (digit < 16) × (byte ≡ digit_glyph true digit)
ReadsDigit byte None = is_length_digit byte ≡ false

-- a length with one digit more, where that is the length of a number and isn't too long
abbrev pub AddsDigit : ℕ → ℕ → ℕ → Option ℕ → Type 0
AddsDigit n digit most (Some longer) = (0 < n) × (longer ≡ n * 16 + digit) × (longer ≤ most)
AddsDigit n digit most None = (n ≡ 0) ⊎ (most < n * 16 + digit)

-- the text of a length of at most so much
abbrev pub IsLength : ℕ → List ℕ → Type 0
IsLength most text = (n : ℕ) × (n ≤ most) × (text ≡ length_text n)

-- the same with a byte behind it that is no digit
abbrev pub IsEndedLength : ℕ → List ℕ → Type 0
IsEndedLength most text = (n byte : ℕ) × (n ≤ most) × (is_length_digit byte ≡ false) × (text ≡ length_text n ++ byte ∷ [])

-- bytes begin with one that is no digit
abbrev pub BeginsOther : List ℕ → Type 0
BeginsOther [] = ⊥
BeginsOther (byte ∷ bytes) = is_length_digit byte ≡ false

abbrev pub ReadsFirstDigit : ℕ → List ℕ → Result (ℕ × Bor (List ℕ)) PartFault → Type 0
ReadsFirstDigit most bytes (Ok (digit, rest)) = (digit < 16) × (digit ≤ most) × (bytes ≡ length_text digit ++ rest.now)
ReadsFirstDigit most bytes (Err fault) = StopsWhere (IsLength most) (Led (IsEndedLength most)) bytes fault

abbrev pub ReadsLength : ℕ → List ℕ → Result (ℕ × Bor (List ℕ)) PartFault → Type 0
ReadsLength most bytes (Ok (n, rest)) = (n ≤ most) × (bytes ≡ length_text n ++ rest.now) × BeginsOther rest.now
ReadsLength most bytes (Err fault) = StopsWhere (IsLength most) (Led (IsEndedLength most)) bytes fault

-- ## Signatures

abbrev pub ReadsSignature : List ℕ → Result (String Global × Bor (List ℕ)) PartFault → Type 0
ReadsSignature bytes (Ok (text, rest)) = IsSignature (string_bytes text) × (bytes ≡ string_bytes text ++ rest.now)
ReadsSignature bytes (Err fault) = StopsWhere IsSignature (Led IsSignature) bytes fault
