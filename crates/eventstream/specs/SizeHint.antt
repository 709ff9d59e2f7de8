-- How many bytes a message is expected to take in the event stream encoding.
use Rattle.std.specs.Prelude.{ℕ, ◌+◌, ◌-◌, ◌^◌, min, length, sum_by}
use Rattle.smithy_core.specs.Message.{Parts}
use Rattle.smithy_core.specs.Header.{Header}
use Rattle.smithy_core.specs.declared.header.HeaderValue.{HeaderValue}
use Rattle.eventstream.specs.Frame.{least_frame, most_name}
use Rattle.smithy_core.specs.declared.header.HeaderValue.TheVariants.{Bool as Truth, Byte, Int16, Int32, Int64, ByteArray, String as Text, Timestamp, Uuid}

-- the bytes of a value after its kind; bytes and text stand behind two bytes of length
abbrev pub value_width : HeaderValue → ℕ
value_width (Truth b) = 0
value_width (Byte n) = 1
value_width (Int16 n) = 2
value_width (Int32 n) = 4
value_width (Int64 n) = 8
value_width (ByteArray bytes) = 2 + length bytes
value_width (Text text) = 2 + length text
value_width (Timestamp t) = 8
value_width (Uuid n) = 16

-- one byte of length, a name as long as may be written, one byte of kind, and the value
abbrev pub header_width : Header → ℕ
header_width h = 1 + min (length h.name) most_name + 1 + value_width h.value

-- the bytes of the smallest frame, the headers and the payload, up to the greatest number of 64 bits
unfoldable pub size_hint : Parts → ℕ
size_hint m = min (least_frame + sum_by header_width m.headers + length m.payload) (2 ^ 64 - 1)
