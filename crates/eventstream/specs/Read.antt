-- The event stream encoding: what bytes are read as. The first fault in this order decides.
use Rattle.std.specs.Prelude.{◌≡◌, ◌⊎◌, ◌≤◌, ℕ, zero, suc, ◌+◌, ◌-◌, ◌==◌, nat_lt, nat_le, true, false, if◌then◌else◌, List, [], ◌∷◌, ◌++◌, length, take, drop, slice_index, Result, Ok, Err}
use Rattle.std.specs.Global.{Vec}
use Rattle.std.specs.Int.{Width, w8, w16, w32, w64, w128, byte_len, from_be_bytes, cast_signed}
use Rattle.std.specs.Str.{is_utf8}
use Rattle.mac_core.specs.Crc.{after_bytes, before_any, remainder}
use Rattle.smithy_core.specs.Moment.{at_ms}
use Rattle.smithy_core.specs.Message.{Parts}
use Rattle.smithy_core.specs.Header.{Header}
use Rattle.smithy_core.specs.declared.header.HeaderValue.{HeaderValue}
use Rattle.smithy_core.specs.declared.header.HeaderValue.TheVariants.{Bool as Truth, Byte, Int16, Int32, Int64, ByteArray, String as Text, Timestamp, Uuid}
use Rattle.eventstream.specs.Bind.{◌>>=◌}
use Rattle.seg_buf.specs.Segments.{prelude_len}
use Rattle.eventstream.specs.Frame.{least_frame, most_block, most_frame}
use Rattle.eventstream.specs.Kind.{true_kind, false_kind, byte_kind, int16_kind, int32_kind, int64_kind, byte_array_kind, string_kind, timestamp_kind, uuid_kind}
use Rattle.eventstream.specs.declared.read.lengths.Lengths.{Lengths}
use Rattle.eventstream.specs.declared.error.Error.{Error}
use Rattle.eventstream.specs.Error.{error_kind}
use Rattle.eventstream.specs.declared.error.ErrorKind.{ErrorKind}
use Rattle.eventstream.specs.declared.error.ErrorKind.TheVariants.{InvalidHeaderNameLength, InvalidHeaderValue, InvalidHeaderValueType, InvalidHeadersLength, InvalidMessageLength, InvalidUtf8String, MessageChecksumMismatch, NoMemory, PreludeChecksumMismatch}

-- the number of this width that bytes spell, the highest first
unfoldable pub big_endian : Width → List ℕ → ℕ
big_endian w bytes = from_be_bytes w bytes

-- the number that the four bytes from a place on spell
abbrev pub u32_at : ℕ → List ℕ → ℕ
u32_at place bytes = big_endian w32 (take 4 (drop place bytes))

-- the length that the first four bytes announce
abbrev pub announced : List ℕ → ℕ
announced bytes = u32_at 0 bytes

-- ## Values

-- so many bytes of a value, and the bytes after them
unfoldable pub front_of : ℕ → List ℕ → Result (List ℕ × List ℕ) ErrorKind
front_of n bytes = if nat_lt (length bytes) n then Err InvalidHeaderValue else Ok (take n bytes, drop n bytes)

-- a value that a number of this width stands for, and the bytes after it
unfoldable pub number_of : Width → (ℕ → HeaderValue) → List ℕ → Result (HeaderValue × List ℕ) ErrorKind
number_of w value bytes = do
  number ← front_of (byte_len w) bytes
  Ok (value (big_endian w number.0), number.1)

-- two bytes of length and that many bytes, and the bytes after them; three bytes have to be there
unfoldable pub counted_of : List ℕ → Result (List ℕ × List ℕ) ErrorKind
counted_of bytes =
    if nat_lt (length bytes) 3 then Err InvalidHeaderValue else front_of (big_endian w16 (take 2 bytes)) (drop 2 bytes)

-- a byte array, and the bytes after it
unfoldable pub array_of : List ℕ → Result (HeaderValue × List ℕ) ErrorKind
array_of bytes = do
  array ← counted_of bytes
  Ok (ByteArray array.0, array.1)

-- a UTF-8 text, and the bytes after it
unfoldable pub text_value_of : List ℕ → Result (HeaderValue × List ℕ) ErrorKind
text_value_of bytes = do
  text ← counted_of bytes
  if is_utf8 text.0 then Ok (Text text.0, text.1) else Err InvalidUtf8String

-- the value of a kind, and the bytes after it
unfoldable pub value_of : ℕ → List ℕ → Result (HeaderValue × List ℕ) ErrorKind
value_of kind bytes =
    if kind == true_kind then Ok (Truth true, bytes)
    else if kind == false_kind then Ok (Truth false, bytes)
    else if kind == byte_kind then number_of w8 (λ n. Byte (cast_signed w8 n)) bytes
    else if kind == int16_kind then number_of w16 (λ n. Int16 (cast_signed w16 n)) bytes
    else if kind == int32_kind then number_of w32 (λ n. Int32 (cast_signed w32 n)) bytes
    else if kind == int64_kind then number_of w64 (λ n. Int64 (cast_signed w64 n)) bytes
    else if kind == byte_array_kind then array_of bytes
    else if kind == string_kind then text_value_of bytes
    else if kind == timestamp_kind then number_of w64 (λ n. Timestamp (at_ms (cast_signed w64 n))) bytes
    else if kind == uuid_kind then number_of w128 (λ n. Uuid n) bytes
    else Err (InvalidHeaderValueType kind)

-- ## Headers

-- a UTF-8 name behind its length, and the bytes after it, of which there is one at least
unfoldable pub header_name_of : List ℕ → Result (List ℕ × List ℕ) ErrorKind
header_name_of bytes =
    let n = slice_index bytes 0 in
    if nat_lt (length bytes) 2 then Err InvalidHeadersLength
    else if nat_le (length bytes - 1) n then Err InvalidHeaderNameLength
    else if is_utf8 (take n (drop 1 bytes)) then Ok (take n (drop 1 bytes), drop n (drop 1 bytes))
    else Err InvalidUtf8String

-- a header, and the bytes after it: its name, the kind of its value and the value
unfoldable pub header_of : List ℕ → Result (Header × List ℕ) ErrorKind
header_of bytes = do
  name ← header_name_of bytes
  value ← value_of (slice_index name.1 0) (drop 1 name.1)
  Ok (record { name = name.0; value = value.0 }, value.1)

-- a header of a block that has so many bytes left, and the bytes after it; it is read from all bytes, and may not pass the block
unfoldable pub header_within : ℕ → List ℕ → Result (Header × List ℕ) ErrorKind
header_within left bytes = do
  header ← header_of bytes
  if nat_lt left (length bytes - length header.1) then Err InvalidHeaderValue else Ok header

-- the headers of a block that has so many bytes left, at most so many headers
unfoldable pub headers_within : ℕ → ℕ → List ℕ → Result (List Header) ErrorKind
headers_within most zero bytes = Ok []
headers_within zero (suc left) bytes = Ok []
headers_within (suc most) (suc left) bytes = do
  header ← header_within (suc left) bytes
  others ← headers_within most (suc left - (length bytes - length header.1)) header.1
  Ok (header.0 ∷ others)

-- the headers of a block of so many bytes; each header takes a byte at least
abbrev pub headers_of : ℕ → List ℕ → Result (List Header) ErrorKind
headers_of left bytes = headers_within left left bytes

-- ## Frames

-- the lengths that a prelude of twelve bytes tells, or its first fault
unfoldable pub read_prelude : List ℕ → Result Lengths ErrorKind
read_prelude prelude =
    let total = u32_at 0 prelude in
    let headers = u32_at 4 prelude in
    let computed = remainder (take 8 prelude) in
    let carried = u32_at 8 prelude in
    if nat_lt total least_frame then Err InvalidMessageLength
    else if nat_lt most_frame total then Err InvalidMessageLength
    else if headers == 1 then Err InvalidHeadersLength
    else if nat_lt most_block headers then Err InvalidHeadersLength
    else if nat_lt (total - least_frame) headers then Err InvalidHeadersLength
    else if computed == carried then Ok (record { total = total; headers = headers })
    else Err (PreludeChecksumMismatch computed carried)

-- lengths that a frame can have
pub record AreFit (lengths : Lengths) : Type 0 where
  pub least : least_frame ≤ lengths.total
  pub most : lengths.total ≤ most_frame
  pub block : lengths.headers ≤ most_block
  pub room : lengths.headers + least_frame ≤ lengths.total

-- the checksum of a frame of this length, with its prelude and the bytes after it
abbrev pub IsSumOf : ℕ → List ℕ → List ℕ → ℕ → Type 0
IsSumOf total prelude rest checksum = checksum ≡ after_bytes before_any (prelude ++ take (total - prelude_len) rest)

-- the payload behind these headers, where the closing checksum is that of all bytes before it
unfoldable pub checked_message : Lengths → List ℕ → List ℕ → List Header → Result Parts ErrorKind
checked_message lengths prelude rest headers =
    let computed = remainder (prelude ++ take (lengths.total - least_frame) rest) in
    let carried = u32_at (lengths.total - least_frame) rest in
    if computed == carried then Ok (record { headers = headers; payload = take (lengths.total - least_frame - lengths.headers) (drop lengths.headers rest) })
    else Err (MessageChecksumMismatch computed carried)

-- the message and the length of the frame of these lengths, with its prelude and the bytes after it
unfoldable pub read_frame : Lengths → List ℕ → List ℕ → Result (Parts × ℕ) ErrorKind
read_frame lengths prelude rest =
    if nat_lt (prelude_len + length rest) lengths.total then Err InvalidMessageLength
    else do
      headers ← headers_of lengths.headers rest
      message ← checked_message lengths prelude rest headers
      Ok (message, lengths.total)

-- the message and the length of the frame with a prelude and the bytes after it
unfoldable pub read_after : List ℕ → List ℕ → Result (Parts × ℕ) ErrorKind
read_after prelude rest = do
  lengths ← read_prelude prelude
  read_frame lengths prelude rest

-- the message that the bytes begin with, and the length of its frame
unfoldable pub read : List ℕ → Result (Parts × ℕ) ErrorKind
read bytes = if nat_lt (length bytes) prelude_len then Err InvalidMessageLength else read_after (take prelude_len bytes) (drop prelude_len bytes)

-- ## What the readers promise

-- the fault is told, or memory ran out
abbrev pub Fails : {A : Type 0} → Result A ErrorKind → Error → Type 0
Fails read e = (read ≡ Err (error_kind e)) ⊎ (error_kind e ≡ NoMemory)

-- what was read is the answer
abbrev pub GivesRead : {A : Type 0} → Result A ErrorKind → Result A Error → Type 0
GivesRead read (Ok x) = read ≡ Ok x
GivesRead read (Err e) = Fails read e

-- what was read is the answer, and the bytes after it are left
abbrev pub GivesFront : {A : Type 0} → (List ℕ → Result (A × List ℕ) ErrorKind) → List ℕ → List ℕ → Result A Error → Type 0
GivesFront of old new (Ok x) = (of old ≡ Ok (x, new)) × (length new ≤ length old)
GivesFront of old new (Err e) = Fails (of old) e

-- the headers that were read are the answer
abbrev pub GivesHeaders : Result (List Header) ErrorKind → Result (Vec Header) Error → Type 0
GivesHeaders read (Ok headers) = read ≡ Ok headers.items
GivesHeaders read (Err e) = Fails read e

-- the message of a frame of this length is the answer
abbrev pub GivesMessage : Result (Parts × ℕ) ErrorKind → ℕ → Result Parts Error → Type 0
GivesMessage read len (Ok message) = read ≡ Ok (message, len)
GivesMessage read len (Err e) = Fails read e

-- the message is the answer, and its frame is taken; with a fault nothing is
abbrev pub TakesMessage : Result (Parts × ℕ) ErrorKind → List ℕ → List ℕ → Result Parts Error → Type 0
TakesMessage read old new (Ok message) = (read ≡ Ok (message, announced old)) × (new ≡ drop (announced old) old)
TakesMessage read old new (Err e) = Fails read e × (new ≡ old)
