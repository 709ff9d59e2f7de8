-- What bytes of a body in signed chunks begin with (Amazon S3, "Signature calculations for the Authorization header: transferring payload in multiple
-- chunks"): a line of the chunk's length, `;chunk-signature=` and its signature, and behind it the data and the end of their line.
use Rattle.std.specs.Prelude.{ℕ, ◌+◌, ◌==◌, ◌&&◌, Bool, nat_lt, List, bytes_eq, codes, drop, length, take, Option, Some, None, if◌then◌else◌}
use Rattle.std.specs.Char.{is_digit}
use Rattle.std.specs.List.{prefix_len}
use Rattle.std.specs.Str.Parse.{digits_value}
use Rattle.aws_chunked.specs.Text.{crlf}
use Rattle.chunk_watch.specs.declared.fault.ChunkFault.{ChunkFault}
use Rattle.chunk_watch.specs.declared.fault.ChunkFault.TheVariants.{BadEnd, BadLine, LongChunk}

-- a hexadecimal digit, in either case
abbrev pub is_hex_digit : ℕ → Bool
is_hex_digit byte = is_digit byte 16

-- what bytes begin with: the first chunk isn't there whole yet; or they begin none; or a chunk with its signature, its data and the length of the whole; or
-- the line of the empty chunk, with its signature and its length
pub data Begun : Type 0 where
  short : Begun
  bad : ChunkFault → Begun
  chunk : List ℕ → List ℕ → ℕ → Begun
  empty : List ℕ → ℕ → Begun

-- the signature of a line, in the 83 bytes behind its length
abbrev pub line_signature : List ℕ → Option (List ℕ)
line_signature line = if bytes_eq (take 17 line) (codes ";chunk-signature=") && bytes_eq (drop 81 line) crlf then Some (take 64 (drop 17 line)) else None

-- a chunk of this length at this place, whose line has this length and this signature, before these bytes
abbrev pub begun_behind : ℕ → ℕ → ℕ → ℕ → List ℕ → List ℕ → Begun
begun_behind most place size line_len bytes signature =
    if nat_lt most size then bad (LongChunk place)
    else if size == 0 then empty signature line_len
    else if nat_lt (length bytes) (size + 2) then short
    else if bytes_eq (take 2 (drop size bytes)) crlf then chunk signature (take size bytes) (line_len + size + 2)
    else bad (BadEnd place)

-- the same, where the line has a signature
abbrev pub begun_line : ℕ → ℕ → ℕ → ℕ → List ℕ → Option (List ℕ) → Begun
begun_line most place size line_len bytes None = bad (BadLine place)
begun_line most place size line_len bytes (Some signature) = begun_behind most place size line_len bytes signature

-- what bytes begin with whose first so many are digits, and 83 of them the rest of a line
abbrev pub begun_with : ℕ → ℕ → List ℕ → ℕ → Begun
begun_with most place bytes digits =
    if nat_lt 8 digits then bad (BadLine place)
    else if nat_lt (length (drop digits bytes)) 83 then short
    else if digits == 0 then bad (BadLine place)
    else begun_line most place (digits_value 16 (take digits bytes)) (digits + 83) (drop 83 (drop digits bytes)) (line_signature (take 83 (drop digits bytes)))

-- what bytes begin with: a length has up to eight digits, and a chunk's data at most so many bytes
unfoldable pub front_begun : ℕ → ℕ → List ℕ → Begun
front_begun most place bytes = begun_with most place bytes (prefix_len is_hex_digit bytes)
