-- How a body is encoded, and how long its text is.
use Rattle.std.specs.Prelude.{ℕ, zero, suc, ◌+◌, ◌-◌, ◌*◌, ◌/◌, ◌%◌, ◌≤◌, ◌^◌, Bool, true, false, List, [], length, sum, map, nat_lt, min, if◌then◌else◌, Option, Some, None}
use Rattle.aws_chunked.specs.Text.{length_text}

-- the declared length of the data, the declared lengths of the trailers, the chunk size, whether the encoding is off, and whether
-- chunks are signed
pub record Options : Type 0 where
  pub stream_length : ℕ
  pub trailer_lengths : List ℕ
  pub chunk_size : ℕ
  pub disabled : Bool
  pub is_signed : Bool

-- from 1 to 4,294,967,295 bytes
abbrev pub IsChunkSize : ℕ → Type 0
IsChunkSize n = (1 ≤ n) × (n ≤ 4294967295)

-- chunks of 65,536 bytes, not signed
abbrev pub options_of : ℕ → List ℕ → Options
options_of stream_length trailer_lengths =
    record { stream_length = stream_length; trailer_lengths = trailer_lengths; chunk_size = 65536; disabled = false; is_signed = false }

-- the encoding is off
abbrev pub no_chunks : Options
no_chunks = record (options_of 0 []) { disabled = true }

-- how long the signature behind a length is: `;chunk-signature=` and 64 digits, where there is one
abbrev pub signature_length : Bool → ℕ
signature_length is_signed = if is_signed then 81 else 0

-- how long the line before a chunk is
abbrev pub head_length : Bool → ℕ → ℕ
head_length is_signed n = length (length_text n) + signature_length is_signed + 2

-- how long a chunk of data is
abbrev pub chunk_length : Bool → ℕ → ℕ
chunk_length is_signed n = head_length is_signed n + n + 2

-- how long a last chunk of so many bytes is, which there is where some are left
abbrev pub last_length : Bool → ℕ → ℕ
last_length is_signed zero = 0
last_length is_signed (suc n) = chunk_length is_signed (suc n)

-- how long the text is without trailers: full chunks, one of the rest, the empty one and an empty line
abbrev pub chunks_length : Options → ℕ
chunks_length options =
    (options.stream_length / options.chunk_size) * chunk_length options.is_signed options.chunk_size
    + last_length options.is_signed (options.stream_length % options.chunk_size) + head_length options.is_signed 0 + 2

-- the declared lengths of the trailers, each with its CRLF
abbrev pub declared_length : List ℕ → ℕ
declared_length lengths = sum (map (λ n. n + 2) lengths)

-- how long the text is, for data and trailers of the declared lengths
unfoldable pub encoded_length : Options → ℕ
encoded_length options = chunks_length options + declared_length options.trailer_lengths

-- the number, where it fits 64 bits
abbrev pub fitting : ℕ → Option ℕ
fitting n = if nat_lt n (2 ^ 64) then Some n else None

-- how long the text of a body is that isn't cut, for data and trailers of the declared lengths: one chunk of all data, where there
-- is some, the empty one, the trailers and an empty line
unfoldable pub data_length : Options → ℕ
data_length options = last_length false options.stream_length + head_length false 0 + declared_length options.trailer_lengths + 2

-- the number, counted up to the greatest of 64 bits
abbrev pub counted : ℕ → ℕ
counted n = min n (2 ^ 64 - 1)
