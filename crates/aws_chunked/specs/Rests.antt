-- What may stand behind the first parts of a whole text, and what it says.
use Rattle.std.specs.Prelude.{◌≡◌, ℕ, zero, suc, ◌<◌, ◌≤◌, Bool, true, false, List, [], ◌∷◌, ◌++◌, length, map, nat_lt, ◌==◌, if◌then◌else◌, Option, Some, None, Result, Ok, Err, String, string_bytes}
use Rattle.std.specs.Borrow.{Bor}
use Rattle.std.specs.List.{AllByRecursion, flat_map}
use Rattle.std.specs.declared.alloc.Global.{Global}
use Rattle.aws_chunked.specs.Body.{Trailer}
use Rattle.aws_chunked.specs.Decoded.{IsOnly, IsSignature, IsText, IsTextOf, IsTrailer, TakesSignature}
use Rattle.aws_chunked.specs.Reading.{Led, StopsWhere}
use Rattle.aws_chunked.specs.Signing.{has_signature}
use Rattle.aws_chunked.specs.Text.{crlf, last_line, length_text, signature_text, trailer_line}
use Rattle.aws_chunked.specs.declared.decode.Decoded.{Decoded}
use Rattle.aws_chunked.specs.declared.decode.chunks.Chunks.{Chunks}
use Rattle.aws_chunked.specs.declared.decode.fault.PartFault.{PartFault}

-- ## What texts say

-- texts that say data, signatures and trailers
abbrev pub TextSays : Type 1
TextSays = List ℕ → List (List ℕ) → List Trailer → List ℕ → Type 0

-- one of them says anything
abbrev pub Said : TextSays → List ℕ → Type 0
Said Is text = (body : List ℕ) × (signatures : List (List ℕ)) × (trailers : List Trailer) × Is body signatures trailers text

-- the first byte, where there is one
abbrev pub first_byte : List ℕ → Option ℕ
first_byte [] = None
first_byte (byte ∷ bytes) = Some byte

-- whether this byte is the first
abbrev pub begins_with : ℕ → List ℕ → Bool
begins_with byte [] = false
begins_with byte (first ∷ bytes) = first == byte

-- behind the first bytes, which say the first data and signatures, the whole goes on as the rest may: each rest goes on to a whole, and
-- each whole that begins so and whose next byte is that of the bytes at hand comes from a rest
pub record FollowsFront (Whole Rest : TextSays) (body : List ℕ) (signatures : List (List ℕ)) (front rest : List ℕ) : Type 0 where
  pub goes_on : (b all_b : List ℕ) (s all_s : List (List ℕ)) (t : List Trailer) (text all : List ℕ) → all_b ≡ body ++ b → all_s ≡ signatures ++ s
      → all ≡ front ++ text → Rest b s t text → Whole all_b all_s t all
  pub comes_so : (all_b : List ℕ) (all_s : List (List ℕ)) (t : List Trailer) (text all : List ℕ) → all ≡ front ++ text → first_byte text ≡ first_byte rest
      → Whole all_b all_s t all → (b : List ℕ) × (s : List (List ℕ)) × (all_b ≡ body ++ b) × (all_s ≡ signatures ++ s) × Rest b s t text

-- ## Parts of a text

-- the signature of a part, which there is where the text is signed
abbrev pub IsSignedBy : Bool → Option (List ℕ) → Type 0
IsSignedBy false None = Unit {0}
IsSignedBy false (Some signature) = ⊥
IsSignedBy true None = ⊥
IsSignedBy true (Some signature) = IsSignature signature

-- the signatures of one part
abbrev pub one_or_none : Option (List ℕ) → List (List ℕ)
one_or_none None = []
one_or_none (Some signature) = signature ∷ []

-- the texts of signatures
abbrev pub signature_texts : List (String Global) → List (List ℕ)
signature_texts signatures = map string_bytes signatures

-- the greatest length behind a chunk of this length, in a text with chunks of this size
abbrev pub most_after : ℕ → ℕ → ℕ
most_after size n = if nat_lt n size then 0 else size

-- behind a length: a signature, where the text is signed, and the end of the line
abbrev pub IsHeadEnd : Bool → List ℕ → Type 0
IsHeadEnd is_signed word = (signature : Option (List ℕ)) × IsSignedBy is_signed signature × (word ≡ signature_text signature ++ crlf)

-- data of this length and the end of its line
abbrev pub IsData : ℕ → List ℕ → Type 0
IsData n word = (piece : List ℕ) × (length piece ≡ n) × (word ≡ piece ++ crlf)

-- behind the line of the empty chunk: trailers and their signature, and an empty line
abbrev pub IsTail : Bool → List (List ℕ) → List Trailer → List ℕ → Type 0
IsTail is_signed signatures trailers text =
    (last : Option (List ℕ)) × AllByRecursion IsTrailer trailers × TakesSignature (has_signature is_signed trailers) signatures last []
    × (text ≡ flat_map trailer_line trailers ++ last_line last ++ crlf)

-- ## Rests of a text

-- a length of at most so much, and what may stand behind it
abbrev pub LengthThen : ℕ → (ℕ → TextSays) → TextSays
LengthThen most Rest body signatures trailers text =
    (n : ℕ) × (rest : List ℕ) × (n ≤ most) × (text ≡ length_text n ++ rest) × Rest n body signatures trailers rest

-- what stands behind a length, and what may stand behind that
abbrev pub HeadEndThen : Bool → TextSays → TextSays
HeadEndThen is_signed Rest body signatures trailers text =
    (signature : Option (List ℕ)) × (others : List (List ℕ)) × (rest : List ℕ) × IsSignedBy is_signed signature × (signatures ≡ one_or_none signature ++ others)
    × (text ≡ (signature_text signature ++ crlf) ++ rest) × Rest body others trailers rest

-- data of this length, and what may stand behind it
abbrev pub DataThen : ℕ → TextSays → TextSays
DataThen n Rest body signatures trailers text =
    (piece later rest : List ℕ) × (length piece ≡ n) × (body ≡ piece ++ later) × (text ≡ (piece ++ crlf) ++ rest) × Rest later signatures trailers rest

-- the tail, which says no data
abbrev pub TailSays : Bool → TextSays
TailSays is_signed body signatures trailers text = (body ≡ []) × IsTail is_signed signatures trailers text

-- behind the line before a chunk of this length, in a text with chunks of this size: so many chunks of data, and the tail
abbrev pub ChunksThen : Bool → ℕ → ℕ → ℕ → TextSays
ChunksThen is_signed size zero n body signatures trailers text = (n ≡ 0) × TailSays is_signed body signatures trailers text
ChunksThen is_signed size (suc k) n body signatures trailers text =
    (0 < n) × DataThen n (LengthThen (most_after size n) (λ m. HeadEndThen is_signed (ChunksThen is_signed size k m))) body signatures trailers text

-- the same, of any number of chunks
abbrev pub ChunkRest : Bool → ℕ → ℕ → TextSays
ChunkRest is_signed size n body signatures trailers text = (k : ℕ) × ChunksThen is_signed size k n body signatures trailers text

-- behind the line before a chunk, its data; behind its data, the line before the next
abbrev pub NextRest : Bool → ℕ → ℕ → TextSays
NextRest is_signed size n = LengthThen (most_after size n) (λ m. HeadEndThen is_signed (ChunkRest is_signed size m))

-- behind the first length: whether the text is signed shows there
abbrev pub FirstRest : ℕ → TextSays
FirstRest size body signatures trailers text = (is_signed : Bool) × HeadEndThen is_signed (ChunkRest is_signed size size) body signatures trailers text

-- a whole text from its first length on
abbrev pub WholeSays : TextSays
WholeSays = LengthThen 4294967295 FirstRest

-- ## Calls

-- what stands behind a length is read
abbrev pub ReadsHeadEnd : List ℕ → Chunks → Chunks → Result (Bor (List ℕ)) PartFault → Type 0
ReadsHeadEnd bytes old new (Ok rest) =
    (signature : Option (List ℕ)) × IsSignedBy old.is_signed signature × (bytes ≡ (signature_text signature ++ crlf) ++ rest.now)
    × (signature_texts new.signatures.items ≡ signature_texts old.signatures.items ++ one_or_none signature)
    × (new.is_signed ≡ old.is_signed) × (new.body ≡ old.body)
ReadsHeadEnd bytes old new (Err fault) = StopsWhere (IsHeadEnd old.is_signed) (Led (IsHeadEnd old.is_signed)) bytes fault

-- data of this length is read, and the end of its line
abbrev pub ReadsData : ℕ → List ℕ → List ℕ → List ℕ → Result (Bor (List ℕ)) PartFault → Type 0
ReadsData n bytes old new (Ok rest) = (piece : List ℕ) × (length piece ≡ n) × (bytes ≡ (piece ++ crlf) ++ rest.now) × (new ≡ old ++ piece)
ReadsData n bytes old new (Err fault) = StopsWhere (IsData n) (Led (IsData n)) bytes fault

-- chunks are read up to the tail
abbrev pub ReadsChunks : List ℕ → Result (Chunks × Bor (List ℕ)) PartFault → Type 0
ReadsChunks bytes (Ok (chunks, rest)) =
    (front : List ℕ) × (bytes ≡ front ++ rest.now)
    × FollowsFront IsTextOf (TailSays chunks.is_signed) chunks.body.items (signature_texts chunks.signatures.items) front rest.now
ReadsChunks bytes (Err fault) = StopsWhere (Said IsTextOf) (Said IsTextOf) bytes fault

-- the tail is read: it is one of these trailers with these signatures, and of no others
abbrev pub ReadsTail : Bool → List ℕ → List (List ℕ) → List (List ℕ) → Result (List Trailer) PartFault → Type 0
ReadsTail is_signed bytes old new (Ok trailers) =
    (signatures : List (List ℕ)) × (new ≡ old ++ signatures) × IsTail is_signed signatures trailers bytes
    × ((s : List (List ℕ)) (t : List Trailer) → IsTail is_signed s t bytes → (s ≡ signatures) × (t ≡ trailers))
ReadsTail is_signed bytes old new (Err fault) = StopsWhere (Said (TailSays is_signed)) (Said (TailSays is_signed)) bytes fault

-- the whole is read: it is the text of what is answered, and of nothing else
abbrev pub ReadsWhole : List ℕ → Result Decoded PartFault → Type 0
ReadsWhole bytes (Ok decoded) =
    IsTextOf decoded.body (map string_bytes decoded.signatures.items) decoded.trailers bytes × IsOnly bytes decoded
ReadsWhole bytes (Err fault) = StopsWhere IsText IsText bytes fault
