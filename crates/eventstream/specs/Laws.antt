-- What a message is read back as, and what the types of its parts say of it.
use Rattle.std.specs.Prelude.{◌<◌, ◌^◌, map, All, FitsSigned, IsUtf8}
use Rattle.std.specs.Int.{w8, w16, w32, w64}
use Rattle.smithy_core.specs.Moment.{floored}
use Rattle.smithy_core.specs.Message.{Parts}
use Rattle.smithy_core.specs.Header.{Header}
use Rattle.smithy_core.specs.declared.header.HeaderValue.{HeaderValue}
use Rattle.smithy_core.specs.declared.header.HeaderValue.TheVariants.{Bool as Truth, Byte, Int16, Int32, Int64, ByteArray, String as Text, Timestamp, Uuid}

-- what the type of a value says of it
abbrev pub IsProperValue : HeaderValue → Type 0
IsProperValue (Truth b) = Unit {0}
IsProperValue (Byte n) = FitsSigned w8 n
IsProperValue (Int16 n) = FitsSigned w16 n
IsProperValue (Int32 n) = FitsSigned w32 n
IsProperValue (Int64 n) = FitsSigned w64 n
IsProperValue (ByteArray bytes) = Unit {0}
IsProperValue (Text text) = IsUtf8 text
IsProperValue (Timestamp t) = t.nanos < 1000000000
IsProperValue (Uuid n) = n < 2 ^ 128

-- what the type of a header says of it
pub record IsProperHeader (h : Header) : Type 0 where
  pub name : IsUtf8 h.name
  pub value : IsProperValue h.value

-- a message as its type has it: texts are UTF-8, and numbers and moments fit their widths
pub record IsProper (m : Parts) : Type 0 where
  pub headers : All IsProperHeader m.headers

-- a value, a moment floored to whole milliseconds
abbrev pub floored_value : HeaderValue → HeaderValue
floored_value (Timestamp t) = Timestamp (floored t)
floored_value value = value

-- a header with such a value
abbrev pub floored_header : Header → Header
floored_header h = record h { value = floored_value h.value }

-- a message, each moment in its headers floored to whole milliseconds
abbrev pub floored_message : Parts → Parts
floored_message m = record m { headers = map floored_header m.headers }
