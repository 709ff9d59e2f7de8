-- The text of a body in the encoding aws-chunked (Amazon S3, "Signature calculations for the Authorization header: transferring
-- payload in multiple chunks"), for HTTP 1.x: chunks of one size, an empty one, and trailers.
use Rattle.std.specs.Prelude.{ℕ, zero, suc, List, [], ◌∷◌, ◌++◌, codes, length, take, drop, map, Option, Some, None, true}
use Rattle.std.specs.Fmt.{digits}
use Rattle.std.specs.List.{flat_map}

-- the end of a line
abbrev pub crlf : List ℕ
crlf = 13 ∷ 10 ∷ []

-- a length: hexadecimal digits in upper case, without zeros before them
abbrev pub length_text : ℕ → List ℕ
length_text n = digits 16 true n

-- what stands behind a length: the signature of the chunk, where it has one
abbrev pub signature_text : Option (List ℕ) → List ℕ
signature_text None = []
signature_text (Some signature) = codes ";chunk-signature=" ++ signature

-- the line before a chunk of this length
abbrev pub head_text : ℕ → Option (List ℕ) → List ℕ
head_text n signature = length_text n ++ signature_text signature ++ crlf

-- a chunk of data
unfoldable pub chunk_text : Option (List ℕ) → List ℕ → List ℕ
chunk_text signature piece = head_text (length piece) signature ++ piece ++ crlf

-- `name:value` as a line
abbrev pub trailer_line : List ℕ × List ℕ → List ℕ
trailer_line trailer = trailer.0 ++ codes ":" ++ trailer.1 ++ crlf

-- the line of the trailers' signature, where they have one
abbrev pub last_line : Option (List ℕ) → List ℕ
last_line None = []
last_line (Some signature) = trailer_line (codes "x-amz-trailer-signature", signature)

-- the end of a text: the empty chunk without data, the trailers and their signature, and an empty line
unfoldable pub tail_text : Option (List ℕ) → List (List ℕ × List ℕ) → Option (List ℕ) → List ℕ
tail_text signature trailers trailer_signature = head_text 0 signature ++ flat_map trailer_line trailers ++ last_line trailer_signature ++ crlf

-- data of at most so many bytes, cut every so many bytes
unfoldable pub cut_within : ℕ → ℕ → List ℕ → List (List ℕ)
cut_within bound size [] = []
cut_within zero size (byte ∷ bytes) = []
cut_within (suc bound) size (byte ∷ bytes) = take size (byte ∷ bytes) ∷ cut_within bound size (drop size (byte ∷ bytes))

-- data, cut every so many bytes; the last piece has the rest
unfoldable pub pieces_of_size : ℕ → List ℕ → List (List ℕ)
pieces_of_size size bytes = cut_within (length bytes) size bytes

-- a part of a text: a chunk of data, or the end with its trailers
pub data Part : Type 0 where
  chunk : List ℕ → Part
  tail : List (List ℕ × List ℕ) → Part

-- the parts of the text of data and trailers
abbrev pub parts_of : ℕ → List ℕ → List (List ℕ × List ℕ) → List Part
parts_of size bytes trailers = map chunk (pieces_of_size size bytes) ++ tail trailers ∷ []

-- the text of a part without signatures
abbrev pub part_text : Part → List ℕ
part_text (chunk piece) = chunk_text None piece
part_text (tail trailers) = tail_text None trailers None

-- the text of parts without signatures
abbrev pub parts_text : List Part → List ℕ
parts_text parts = flat_map part_text parts

-- the text of data and trailers without signatures, in chunks of this size
unfoldable pub chunked_text : ℕ → List ℕ → List (List ℕ × List ℕ) → List ℕ
chunked_text size bytes trailers = parts_text (parts_of size bytes trailers)
