-- How long a frame is, and what it holds, as places in its bytes.
use Rattle.std.specs.Prelude.{◌≡◌, ◌⊎◌, ℕ, pos, ◌+◌, ◌≤◌, ◌<◌, nat_lt, true, false, if◌then◌else◌, List, [], ◌∷◌, ◌++◌, length, take, drop, Result, Ok, Err}
use Rattle.std.specs.Int.{w64, w128, to_be_bytes, saturate_signed}
use Rattle.smithy_core.specs.Header.{Header}
use Rattle.smithy_core.specs.Message.{Parts}
use Rattle.smithy_core.specs.Moment.{floor_ms}
use Rattle.smithy_core.specs.declared.header.HeaderValue.{HeaderValue}
use Rattle.smithy_core.specs.declared.header.HeaderValue.TheVariants.{Bool as Truth, Byte, Int16, Int32, Int64, ByteArray, String as Text, Timestamp, Uuid}
use Rattle.seg_buf.specs.Segments.{prelude_len}
use Rattle.eventstream.specs.Kind.{true_kind, false_kind, byte_kind, int16_kind, int32_kind, int64_kind, byte_array_kind, string_kind, timestamp_kind, uuid_kind}
use Rattle.eventstream.specs.Read.{read, read_prelude}
use Rattle.eventstream.specs.declared.error.ErrorKind.{ErrorKind}
use Rattle.eventstream.specs.declared.read.lengths.Lengths.{Lengths}
use Rattle.firuvaik_c.specs.Answers.{refused}
use Rattle.firuvaik_c.specs.Faults.{frame_fault, no_memory}
use Rattle.firuvaik_c.specs.declared.answer.Answer.{Answer}
use Rattle.firuvaik_c.specs.declared.fault.Fault.{Fault}
use Rattle.firuvaik_c.specs.declared.frames.FoundParts.{FoundParts}
use Rattle.firuvaik_c.specs.declared.frames.FrameParts.{FrameParts}
use Rattle.firuvaik_c.specs.declared.frames.HeaderPlace.{HeaderPlace}
use Rattle.firuvaik_c.specs.declared.frames.ValueShape.{ValueShape}

-- ---- the length

-- the length of the frame whose prelude was read, or the prelude's fault
abbrev pub prelude_length : Result Lengths ErrorKind → Result ℕ Fault
prelude_length (Ok lengths) = Ok lengths.total
prelude_length (Err kind) = Err (frame_fault kind)

-- the answer with a length, or with a fault
abbrev pub answer_length : Result ℕ Fault → Answer
answer_length (Ok n) = record { status = 0; place = 0; length = n }
answer_length (Err fault) = refused fault

-- the answer for bytes: the length of the frame that they begin with, or why their prelude is none, or that it isn't there yet
abbrev pub length_answer : List ℕ → Answer
length_answer bytes =
    if nat_lt (length bytes) prelude_len then record { status = 30; place = 0; length = prelude_len }
    else answer_length (prelude_length (read_prelude (take prelude_len bytes)))

-- that is answered, or memory ran out
abbrev pub AnswersLength : List ℕ → Answer → Type 0
AnswersLength bytes answer = (answer ≡ length_answer bytes) ⊎ (answer ≡ refused no_memory)

-- ---- the parts

-- so many bytes from a place on
abbrev pub piece_at : ℕ → ℕ → List ℕ → List ℕ
piece_at place len bytes = take len (drop place bytes)

-- the kind, the number and the bytes of a value are described: of a number the number, of a moment its whole milliseconds, of all others where their bytes stand
abbrev pub DescribesValue : List ℕ → HeaderPlace → HeaderValue → Type 0
DescribesValue bytes place (Truth true) = place.kind ≡ true_kind
DescribesValue bytes place (Truth false) = place.kind ≡ false_kind
DescribesValue bytes place (Byte n) = (place.kind ≡ byte_kind) × (place.number ≡ n)
DescribesValue bytes place (Int16 n) = (place.kind ≡ int16_kind) × (place.number ≡ n)
DescribesValue bytes place (Int32 n) = (place.kind ≡ int32_kind) × (place.number ≡ n)
DescribesValue bytes place (Int64 n) = (place.kind ≡ int64_kind) × (place.number ≡ n)
DescribesValue bytes place (ByteArray array) = (place.kind ≡ byte_array_kind) × (piece_at place.value place.value_length bytes ≡ array)
DescribesValue bytes place (Text text) = (place.kind ≡ string_kind) × (piece_at place.value place.value_length bytes ≡ text)
DescribesValue bytes place (Timestamp t) = (place.kind ≡ timestamp_kind) × (place.number ≡ saturate_signed w64 (floor_ms t))
DescribesValue bytes place (Uuid n) = (place.kind ≡ uuid_kind) × (piece_at place.value place.value_length bytes ≡ to_be_bytes w128 n)

-- a header of a frame is described, by its places in the bytes
pub record DescribesHeader (bytes : List ℕ) (place : HeaderPlace) (header : Header) : Type 0 where
  pub name : piece_at place.name place.name_length bytes ≡ header.name
  pub value : DescribesValue bytes place header.value

-- each header is described, in order
abbrev pub DescribeHeaders : List ℕ → List HeaderPlace → List Header → Type 0
DescribeHeaders bytes [] [] = Unit {0}
DescribeHeaders bytes [] (header ∷ headers) = ⊥
DescribeHeaders bytes (place ∷ others) [] = ⊥
DescribeHeaders bytes (place ∷ others) (header ∷ headers) = DescribesHeader bytes place header × DescribeHeaders bytes others headers

-- a message is described whose frame has so many bytes
pub record DescribesMessage (bytes : List ℕ) (message : Parts) (frame_length : ℕ) (parts : FrameParts) (places : List HeaderPlace) : Type 0 where
  pub headers : DescribeHeaders bytes places message.headers
  pub payload : piece_at parts.payload parts.payload_length bytes ≡ message.payload
  pub frame : parts.length ≡ frame_length

-- the parts are written where the places fit the room, and else it is answered how many places are wanted
abbrev pub WritesParts : FrameParts → List HeaderPlace → FrameParts → FrameParts → List HeaderPlace → List HeaderPlace → Answer → Type 0
WritesParts parts places old new room room_after answer =
    ((length places ≤ length room) × (new ≡ parts) × (room_after ≡ places ++ drop (length places) room)
    × (answer ≡ record { status = 0; place = 0; length = length places }))
    ⊎ ((length room < length places) × (new ≡ old) × (room_after ≡ room) × (answer ≡ record { status = 1; place = 0; length = length places }))

-- a fault is answered and nothing written
abbrev pub RefusesParts : Fault → FrameParts → FrameParts → List HeaderPlace → List HeaderPlace → Answer → Type 0
RefusesParts fault old new room room_after answer = (new ≡ old) × (room_after ≡ room) × (answer ≡ refused fault)

-- what was read is described and written where it fits, or why nothing was read
abbrev pub ReadsOrRefuses : List ℕ → Result (Parts × ℕ) ErrorKind → FrameParts → FrameParts → List HeaderPlace → List HeaderPlace → Answer → Type 0
ReadsOrRefuses bytes (Ok found) old new room room_after answer =
    (parts : FrameParts) × (places : List HeaderPlace) × DescribesMessage bytes found.0 found.1 parts places
    × WritesParts parts places old new room room_after answer
ReadsOrRefuses bytes (Err kind) old new room room_after answer = RefusesParts (frame_fault kind) old new room room_after answer

-- the message of the frame that bytes begin with is described, or why there is none, or memory ran out
abbrev pub DescribesFrame : List ℕ → FrameParts → FrameParts → List HeaderPlace → List HeaderPlace → Answer → Type 0
DescribesFrame bytes old new room room_after answer =
    ReadsOrRefuses bytes (read bytes) old new room room_after answer ⊎ RefusesParts no_memory old new room room_after answer

-- ---- between the functions

-- the kind of a value, the number that it is, how many bytes count its bytes, and how many it has
abbrev pub value_shape : HeaderValue → ValueShape
value_shape (Truth true) = record { kind = true_kind; number = pos 1; count = 0; length = 0 }
value_shape (Truth false) = record { kind = false_kind; number = pos 0; count = 0; length = 0 }
value_shape (Byte n) = record { kind = byte_kind; number = n; count = 0; length = 1 }
value_shape (Int16 n) = record { kind = int16_kind; number = n; count = 0; length = 2 }
value_shape (Int32 n) = record { kind = int32_kind; number = n; count = 0; length = 4 }
value_shape (Int64 n) = record { kind = int64_kind; number = n; count = 0; length = 8 }
value_shape (ByteArray array) = record { kind = byte_array_kind; number = pos 0; count = 2; length = length array }
value_shape (Text text) = record { kind = string_kind; number = pos 0; count = 2; length = length text }
value_shape (Timestamp t) = record { kind = timestamp_kind; number = saturate_signed w64 (floor_ms t); count = 0; length = 8 }
value_shape (Uuid n) = record { kind = uuid_kind; number = pos 0; count = 0; length = 16 }

-- where a header stands that begins at a place: the length of its name, the name, the kind, the count and the value
abbrev pub header_place : ℕ → Header → HeaderPlace
header_place at header = record {
  name = at + 1;
  name_length = length header.name;
  kind = (value_shape header.value).kind;
  number = (value_shape header.value).number;
  value = at + 2 + length header.name + (value_shape header.value).count;
  value_length = (value_shape header.value).length;
}

-- where headers stand that begin at a place, one after another
abbrev pub all_places : ℕ → List Header → List HeaderPlace
all_places at [] = []
all_places at (header ∷ headers) = header_place at header ∷ all_places ((header_place at header).value + (header_place at header).value_length) headers

-- the parts of what was read are found, or why nothing was read, or memory ran out
abbrev pub FindsParts : List ℕ → Result (Parts × ℕ) ErrorKind → Result FoundParts Fault → Type 0
FindsParts bytes (Ok read) (Ok found) = DescribesMessage bytes read.0 read.1 found.parts found.headers.items
FindsParts bytes (Err kind) (Ok found) = ⊥
FindsParts bytes (Ok read) (Err fault) = fault ≡ no_memory
FindsParts bytes (Err kind) (Err fault) = (fault ≡ frame_fault kind) ⊎ (fault ≡ no_memory)
