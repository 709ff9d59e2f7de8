-- Laws of texts in chunks.
use Rattle.std.specs.Prelude.{◌≡◌, ℕ, ◌+◌, true, List, [], ◌∷◌, ◌++◌, length, map, Option, Result, Ok, Err, string_bytes}
use Rattle.aws_chunked.specs.Body.{TakesDue, Trailer, actual_length}
use Rattle.aws_chunked.specs.Decoded.{IsPiecesText}
use Rattle.aws_chunked.specs.Options.{Options, declared_length}
use Rattle.aws_chunked.specs.Text.{pieces_of_size}
use Rattle.aws_chunked.specs.declared.body.ChunkNext.{ChunkNext}
use Rattle.aws_chunked.specs.declared.body.ChunkNext.TheVariants.{Frame}
use Rattle.aws_chunked.specs.declared.decode.DecodeFault.{DecodeFault}
use Rattle.aws_chunked.specs.declared.decode.DecodeFault.TheVariants.{BadChunk, NoMemory}
use Rattle.aws_chunked.specs.declared.decode.Decoded.{Decoded}
use Rattle.aws_chunked.specs.declared.error.AwsChunkedBodyError.{AwsChunkedBodyError}

-- calls in order, each of what was due after the one before
abbrev pub TakeDue : Option (List ℕ) → List (Result ChunkNext AwsChunkedBodyError) → Option (List ℕ) → Type 0
TakeDue before [] now = now ≡ before
TakeDue before (result ∷ results) now = (mid : Option (List ℕ)) × TakesDue before mid result × TakeDue mid results now

-- the bytes that they answered
abbrev pub answered_bytes : List (Result ChunkNext AwsChunkedBodyError) → List ℕ
answered_bytes [] = []
answered_bytes (Ok (Frame bytes) ∷ results) = bytes ++ answered_bytes results
answered_bytes (_ ∷ results) = answered_bytes results

-- this data, these signatures and these trailers are answered, but where memory ran out
abbrev pub AnswersDecoded : List ℕ → List (List ℕ) → List Trailer → Result Decoded DecodeFault → Type 0
AnswersDecoded body signatures trailers (Ok decoded) =
    (body ≡ decoded.body) × (signatures ≡ map string_bytes decoded.signatures.items) × (trailers ≡ decoded.trailers)
AnswersDecoded body signatures trailers (Err (BadChunk k)) = ⊥
AnswersDecoded body signatures trailers (Err NoMemory) = Unit {0}

-- the number is the length of the signed text of any data of the declared length, with the declared lengths of the trailers in place of
-- those of their lines and of the line of their signature
abbrev pub IsSignedLengthOf : Options → ℕ → Type 0
IsSignedLengthOf options n = (bytes : List ℕ) (signatures : List (List ℕ)) (trailers : List Trailer) (text : List ℕ) → length bytes ≡ options.stream_length
    → IsPiecesText true (pieces_of_size options.chunk_size bytes) signatures trailers text
    → length text + declared_length options.trailer_lengths ≡ n + actual_length true trailers
