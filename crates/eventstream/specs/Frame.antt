-- The event stream encoding (application/vnd.amazon.eventstream): what a message is spelled as. All numbers are big-endian.
use Rattle.std.specs.Prelude.{ℕ, ◌+◌, true, false, nat_lt, if◌then◌else◌, List, [], ◌∷◌, ◌++◌, length, Option, Some, None}
use Rattle.std.specs.Int.{w8, w16, w32, w64, w128, to_be_bytes, cast_unsigned, saturate_signed}
use Rattle.std.specs.List.{flat_map}
use Rattle.std.specs.Option.{option_or}
use Rattle.std.specs.Ordering.{int_eq}
use Rattle.mac_core.specs.Crc.{remainder}
use Rattle.smithy_core.specs.Moment.{floor_ms}
use Rattle.smithy_core.specs.Message.{Parts}
use Rattle.smithy_core.specs.Header.{Header}
use Rattle.smithy_core.specs.declared.header.HeaderValue.{HeaderValue}
use Rattle.smithy_core.specs.declared.header.HeaderValue.TheVariants.{Bool as Truth, Byte, Int16, Int32, Int64, ByteArray, String as Text, Timestamp, Uuid}
use Rattle.eventstream.specs.Kind.{true_kind, false_kind, byte_kind, int16_kind, int32_kind, int64_kind, byte_array_kind, string_kind, timestamp_kind, uuid_kind}
use Rattle.eventstream.specs.declared.error.ErrorKind.{ErrorKind}
use Rattle.eventstream.specs.declared.error.ErrorKind.TheVariants.{InvalidHeaderNameLength, HeaderValueTooLong, TimestampValueTooLarge, HeadersTooLong, PayloadTooLong, MessageTooLong}

-- the most bytes of a header's name, whose length is one byte
abbrev pub most_name : ℕ
most_name = 255

-- the most bytes of a header's byte array or text: 32,767, which the SDKs for Java and Go and the AWS Common Runtime accept, though the field could hold 65,535
abbrev pub most_value : ℕ
most_value = 32767

-- the most bytes of a frame: 16 MiB, as the services have it
abbrev pub most_frame : ℕ
most_frame = 16777216

-- the most bytes of a header block: 128 KiB, as the services have it
abbrev pub most_block : ℕ
most_block = 131072

-- the most bytes of a payload: those of the largest frame without headers
abbrev pub most_payload : ℕ
most_payload = 16777200

-- the bytes of the smallest frame: a prelude and the closing checksum
abbrev pub least_frame : ℕ
least_frame = 16

-- four bytes of a number, the highest first
unfoldable pub be32 : ℕ → List ℕ
be32 n = to_be_bytes w32 n

-- the kind of a value, and the value
unfoldable pub value_spelling : HeaderValue → List ℕ
value_spelling (Truth true) = true_kind ∷ []
value_spelling (Truth false) = false_kind ∷ []
value_spelling (Byte n) = byte_kind ∷ to_be_bytes w8 (cast_unsigned w8 n)
value_spelling (Int16 n) = int16_kind ∷ to_be_bytes w16 (cast_unsigned w16 n)
value_spelling (Int32 n) = int32_kind ∷ to_be_bytes w32 (cast_unsigned w32 n)
value_spelling (Int64 n) = int64_kind ∷ to_be_bytes w64 (cast_unsigned w64 n)
value_spelling (ByteArray bytes) = byte_array_kind ∷ to_be_bytes w16 (length bytes) ++ bytes
value_spelling (Text text) = string_kind ∷ to_be_bytes w16 (length text) ++ text
value_spelling (Timestamp t) = timestamp_kind ∷ to_be_bytes w64 (cast_unsigned w64 (floor_ms t))
value_spelling (Uuid n) = uuid_kind ∷ to_be_bytes w128 n

-- the length of the name, the name, the kind of the value and the value
abbrev pub spelling : Header → List ℕ
spelling h = length h.name ∷ h.name ++ value_spelling h.value

-- the header block: the spellings of the headers, in order
abbrev pub block : List Header → List ℕ
block headers = flat_map spelling headers

-- why a value has no spelling
unfoldable pub unspelled_value : HeaderValue → Option ErrorKind
unspelled_value (Truth b) = None
unspelled_value (Byte n) = None
unspelled_value (Int16 n) = None
unspelled_value (Int32 n) = None
unspelled_value (Int64 n) = None
unspelled_value (ByteArray bytes) = if nat_lt most_value (length bytes) then Some HeaderValueTooLong else None
unspelled_value (Text text) = if nat_lt most_value (length text) then Some HeaderValueTooLong else None
unspelled_value (Timestamp t) = if int_eq (saturate_signed w64 (floor_ms t)) (floor_ms t) then None else Some (TimestampValueTooLarge t)
unspelled_value (Uuid n) = None

-- why a header has no spelling: for its name, and then for its value
abbrev pub unspelled : Header → Option ErrorKind
unspelled h = option_or (if nat_lt most_name (length h.name) then Some InvalidHeaderNameLength else None) (unspelled_value h.value)

-- why headers have no spelling: the first one that has none decides
abbrev pub first_unspelled : List Header → Option ErrorKind
first_unspelled [] = None
first_unspelled (h ∷ hs) = option_or (unspelled h) (first_unspelled hs)

-- the lengths of a frame and of its header block
abbrev pub frame_lengths : ℕ → ℕ → List ℕ
frame_lengths total headers = be32 total ++ be32 headers

-- bytes, and then their checksum
abbrev pub summed : List ℕ → List ℕ
summed bytes = bytes ++ be32 (remainder bytes)

-- the length of a frame
abbrev pub frame_len : Parts → ℕ
frame_len m = least_frame + length (block m.headers) + length m.payload

-- the frame of a message: the lengths and their checksum, the header block, the payload, and the checksum of all before it
unfoldable pub frame : Parts → List ℕ
frame m = summed (summed (frame_lengths (frame_len m) (length (block m.headers))) ++ block m.headers ++ m.payload)

-- the fault, where the number passes the most
abbrev pub over : ℕ → ℕ → ErrorKind → Option ErrorKind
over most n fault = if nat_lt most n then Some fault else None

-- why a header block and a payload of these lengths have no frame
abbrev pub unfit_lengths : ℕ → ℕ → Option ErrorKind
unfit_lengths headers payload =
    option_or (over most_block headers HeadersTooLong)
    (option_or (over most_payload payload PayloadTooLong) (over most_frame (least_frame + headers + payload) MessageTooLong))

-- why a message has no frame: for its headers one by one, and then for the lengths
unfoldable pub unframed : Parts → Option ErrorKind
unframed m = option_or (first_unspelled m.headers) (unfit_lengths (length (block m.headers)) (length m.payload))
