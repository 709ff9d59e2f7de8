-- What the steps over the tail of a whole text read.
use Rattle.std.specs.Prelude.{◌≡◌, ℕ, ◌<◌, ◌≤◌, Bool, false, not, ◌&&◌, List, [], ◌∷◌, ◌++◌, length, take, All, IsTrue, map, codes, slice_index, IsUtf8, Option, Some, None, option_copied, Result, Ok, Err}
use Rattle.std.specs.Borrow.{Bor}
use Rattle.std.specs.Int.{is_in_range}
use Rattle.std.specs.List.{AllByRecursion, flat_map}
use Rattle.std.specs.declared.alloc.Global.{Global}
use Rattle.std.specs.declared.vec.Vec.{Vec}
use Rattle.http_header.specs.Token.{is_token_byte, is_value_byte}
use Rattle.smithy_core.specs.HeaderGrammar.{IsHeaderName, IsHeaderValue}
use Rattle.smithy_core.specs.TextPairs.{lower}
use Rattle.aws_chunked.specs.Body.{Trailer}
use Rattle.aws_chunked.specs.Decoded.{IsTrailer}
use Rattle.aws_chunked.specs.Reading.{Led, StopsWhere}
use Rattle.aws_chunked.specs.Rests.{IsSignedBy, Said, TailSays, begins_with}
use Rattle.aws_chunked.specs.Signing.{has_signature}
use Rattle.aws_chunked.specs.Text.{crlf, trailer_line}
use Rattle.aws_chunked.specs.declared.decode.fault.PartFault.{PartFault}

-- a byte of a name in lower case
abbrev pub is_name_byte : ℕ → Bool
is_name_byte byte = is_token_byte byte && not (is_in_range 65 90 byte)

-- the texts of a pair
abbrev pub pair_texts : Bor (List ℕ) × Bor (List ℕ) → Trailer
pair_texts pair = (pair.0.now, pair.1.now)

-- a name and the colon behind it
abbrev pub IsNamePart : List ℕ → Type 0
IsNamePart word = (name : List ℕ) × IsHeaderName name × (lower name ≡ name) × (word ≡ name ++ codes ":")

-- a value and the end of the line
abbrev pub IsValuePart : List ℕ → Type 0
IsValuePart word = (value : List ℕ) × IsUtf8 value × IsHeaderValue value × (word ≡ value ++ crlf)

-- a trailer's line
abbrev pub IsLine : List ℕ → Type 0
IsLine word = (trailer : Trailer) × IsTrailer trailer × (word ≡ trailer_line trailer)

-- the first byte, if there is one, fails the test
abbrev pub EndsRun : (ℕ → Bool) → List ℕ → Type 0
EndsRun test [] = Unit {0}
EndsRun test (byte ∷ bytes) = test byte ≡ false

-- a name is read, and the colon behind it
abbrev pub ReadsName : List ℕ → Result (Bor (List ℕ) × Bor (List ℕ)) PartFault → Type 0
ReadsName bytes (Ok (name, rest)) = IsHeaderName name.now × (lower name.now ≡ name.now) × (bytes ≡ name.now ++ codes ":" ++ rest.now)
ReadsName bytes (Err fault) = StopsWhere IsNamePart (Led IsNamePart) bytes fault

-- so many of the first bytes begin a text of bytes of a value, and no text goes on with the next
pub record IsLongestFront (value : List ℕ) (n : ℕ) : Type 0 where
  pub low : n ≤ length value
  pub more : List ℕ
  pub more_are : All (λ byte. IsTrue (is_value_byte byte)) more
  pub begins : IsUtf8 (take n value ++ more)
  pub stops : n < length value → (behind : List ℕ) → IsUtf8 ((take n value ++ slice_index value n ∷ []) ++ behind) → ⊥

-- a value is read, behind which no byte of one stands
abbrev pub ReadsValue : List ℕ → Result (Bor (List ℕ) × Bor (List ℕ)) PartFault → Type 0
ReadsValue bytes (Ok (value, rest)) = IsUtf8 value.now × IsHeaderValue value.now × (bytes ≡ value.now ++ rest.now) × EndsRun is_value_byte rest.now
ReadsValue bytes (Err fault) = StopsWhere IsValuePart (Led IsValuePart) bytes fault

-- a trailer's line is read
abbrev pub ReadsLine : List ℕ → Result ((Bor (List ℕ) × Bor (List ℕ)) × Bor (List ℕ)) PartFault → Type 0
ReadsLine bytes (Ok (line, rest)) = IsTrailer (pair_texts line) × (bytes ≡ trailer_line (pair_texts line) ++ rest.now)
ReadsLine bytes (Err fault) = StopsWhere IsLine (Led IsLine) bytes fault

-- lines of trailers are read, up to a line that begins with a CR
abbrev pub ReadsLines : List ℕ → Result (Vec (Bor (List ℕ) × Bor (List ℕ)) Global × Bor (List ℕ)) PartFault → Type 0
ReadsLines bytes (Ok (lines, rest)) =
    AllByRecursion IsTrailer (map pair_texts lines.items) × (bytes ≡ flat_map trailer_line (map pair_texts lines.items) ++ rest.now)
    × IsTrue (begins_with 13 rest.now)
ReadsLines bytes (Err fault) = (is_signed : Bool) → StopsWhere (Said (TailSays is_signed)) (Said (TailSays is_signed)) bytes fault

-- the signature of the trailers as a trailer, where there is one
abbrev pub last_trailer : Option (List ℕ) → List Trailer
last_trailer None = []
last_trailer (Some signature) = (codes "x-amz-trailer-signature", signature) ∷ []

-- the lines of trailers and of their signature
abbrev pub IsSplit : Bool → List Trailer → List Trailer → Option (List ℕ) → Type 0
IsSplit is_signed lines trailers last = (lines ≡ trailers ++ last_trailer last) × IsSignedBy (has_signature is_signed trailers) last

-- lines are those of the trailers and of their signature, which is told apart, or are no such lines
abbrev pub SplitsSignature : Bool → List (Bor (List ℕ) × Bor (List ℕ)) → Option (Bor (List (Bor (List ℕ) × Bor (List ℕ))) × Option (Bor (List ℕ))) → Type 0
SplitsSignature is_signed lines (Some (trailers, signature)) =
    IsSplit is_signed (map pair_texts lines) (map pair_texts trailers.now) (option_copied signature)
SplitsSignature is_signed lines None = (trailers : List Trailer) (last : Option (List ℕ)) → IsSplit is_signed (map pair_texts lines) trailers last → ⊥
