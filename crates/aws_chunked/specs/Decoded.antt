-- What a whole text says, and where bytes stop being one.
use Rattle.std.specs.Prelude.{◌≡◌, ℕ, ◌+◌, ◌<◌, ◌⊎◌, Bool, true, false, List, [], ◌∷◌, ◌++◌, length, take, map, IsTrue, Option, Some, None, Result, Ok, Err, string_bytes, IsUtf8, codes}
use Rattle.std.specs.Fmt.{decimal}
use Rattle.std.specs.List.{AllByRecursion}
use Rattle.smithy_core.specs.HeaderGrammar.{IsHeaderName, IsHeaderValue}
use Rattle.smithy_core.specs.TextPairs.{lower}
use Rattle.sigv4.specs.Signature.{is_signature}
use Rattle.aws_chunked.specs.Body.{Trailer}
use Rattle.aws_chunked.specs.Options.{IsChunkSize}
use Rattle.aws_chunked.specs.Signing.{has_signature}
use Rattle.aws_chunked.specs.Text.{chunk_text, pieces_of_size, tail_text}
use Rattle.aws_chunked.specs.declared.decode.DecodeFault.{DecodeFault}
use Rattle.aws_chunked.specs.declared.decode.DecodeFault.TheVariants.{BadChunk, NoMemory}
use Rattle.aws_chunked.specs.declared.decode.Decoded.{Decoded}

-- ## Whole texts

-- 64 hexadecimal digits in lower case
abbrev pub IsSignature : List ℕ → Type 0
IsSignature text = IsTrue (is_signature text)

-- a header with its name in lower case
abbrev pub IsTrailer : Trailer → Type 0
IsTrailer trailer = IsHeaderName trailer.0 × (lower trailer.0 ≡ trailer.0) × IsUtf8 trailer.1 × IsHeaderValue trailer.1

-- a part takes the first of the signatures, where it is signed
abbrev pub TakesSignature : Bool → List (List ℕ) → Option (List ℕ) → List (List ℕ) → Type 0
TakesSignature false before signature after = (signature ≡ None) × (after ≡ before)
TakesSignature true before None after = ⊥
TakesSignature true before (Some signature) after = IsSignature signature × (before ≡ signature ∷ after)

-- the text of pieces of data and of trailers behind them, without signatures, or with one for each piece, one for the empty chunk
-- and, where there are trailers, one for the trailers
abbrev pub IsPiecesText : Bool → List (List ℕ) → List (List ℕ) → List Trailer → List ℕ → Type 0
IsPiecesText is_signed [] signatures trailers text =
    (signature : Option (List ℕ)) × (others : List (List ℕ)) × (last : Option (List ℕ))
    × TakesSignature is_signed signatures signature others
    × TakesSignature (has_signature is_signed trailers) others last []
    × (text ≡ tail_text signature trailers last)
IsPiecesText is_signed (piece ∷ pieces) signatures trailers text =
    (signature : Option (List ℕ)) × (others : List (List ℕ)) × (rest : List ℕ)
    × TakesSignature is_signed signatures signature others
    × (text ≡ chunk_text signature piece ++ rest)
    × IsPiecesText is_signed pieces others trailers rest

-- the text of this data, in chunks of one size, with these signatures and these trailers
pub record IsTextOf (body : List ℕ) (signatures : List (List ℕ)) (trailers : List Trailer) (text : List ℕ) : Type 0 where
  pub size : ℕ
  pub size_in_range : IsChunkSize size
  pub is_signed : Bool
  pub trailers_are : AllByRecursion IsTrailer trailers
  pub is_text : IsPiecesText is_signed (pieces_of_size size body) signatures trailers text

-- the text of some data
abbrev pub IsText : List ℕ → Type 0
IsText text = (body : List ℕ) × (signatures : List (List ℕ)) × (trailers : List Trailer) × IsTextOf body signatures trailers text

-- ## Where bytes stop

-- of texts of which it is told what they are: one begins with the bytes
abbrev pub CanGoOn : (List ℕ → Type 0) → List ℕ → Type 0
CanGoOn Is bytes = (rest : List ℕ) × Is (bytes ++ rest)

-- none begins with the bytes up to and with the one at this place, or the bytes end here and are none
abbrev pub StopsAtByte : (List ℕ → Type 0) → List ℕ → ℕ → Type 0
StopsAtByte Is bytes k = ((k < length bytes) × (CanGoOn Is (take (k + 1) bytes) → ⊥)) ⊎ ((k ≡ length bytes) × (Is bytes → ⊥))

-- the least place where they stop
abbrev pub IsBadAt : (List ℕ → Type 0) → List ℕ → ℕ → Type 0
IsBadAt Is bytes k = StopsAtByte Is bytes k × ((n : ℕ) → n < k → StopsAtByte Is bytes n → ⊥)

-- ## Calls

-- the bytes are the text of what is answered, or stop being one at the place that is named
abbrev pub Decodes : List ℕ → Result Decoded DecodeFault → Type 0
Decodes bytes (Ok decoded) = IsTextOf decoded.body (map string_bytes decoded.signatures.items) decoded.trailers bytes
Decodes bytes (Err (BadChunk k)) = IsBadAt IsText bytes k
Decodes bytes (Err NoMemory) = Unit {0}

-- no other data, signatures or trailers have this text
abbrev pub IsOnly : List ℕ → Decoded → Type 0
IsOnly bytes decoded = (body : List ℕ) (signatures : List (List ℕ)) (trailers : List Trailer) → IsTextOf body signatures trailers bytes
    → (body ≡ decoded.body) × (signatures ≡ map string_bytes decoded.signatures.items) × (trailers ≡ decoded.trailers)

-- where data, signatures and trailers are answered, no others have that text
abbrev pub DecodesOnly : List ℕ → Result Decoded DecodeFault → Type 0
DecodesOnly bytes (Ok decoded) = IsOnly bytes decoded
DecodesOnly bytes (Err fault) = Unit {0}

-- the same data, signatures and trailers
abbrev pub IsSameDecoded : Decoded → Decoded → Type 0
IsSameDecoded decoded copy =
    (copy.body ≡ decoded.body) × (map string_bytes copy.signatures.items ≡ map string_bytes decoded.signatures.items) × (copy.trailers ≡ decoded.trailers)

-- what a fault is printed as
abbrev pub decode_fault_text : DecodeFault → List ℕ
decode_fault_text (BadChunk place) = codes "no text in chunks goes on at byte " ++ decimal place
decode_fault_text NoMemory = codes "no memory"
