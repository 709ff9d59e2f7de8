-- What contracts see of a header's value.
use Rattle.std.specs.Prelude.{ℕ, ℤ, Bool, List, ◌++◌, Option, Some, None, codes, if◌then◌else◌}
use Rattle.std.specs.Fmt.{decimal, signed_decimal}
use Rattle.smithy_core.specs.Moment.{Instant}
use Rattle.smithy_core.specs.declared.header.HeaderValue.{HeaderValue}
use Rattle.smithy_core.specs.declared.header.HeaderValue.TheVariants.{Bool as Truth, Byte, Int16, Int32, Int64, ByteArray, String, Timestamp, Uuid}

-- the Boolean of a value that is one
abbrev pub bool_of : HeaderValue → Option Bool
bool_of (Truth value) = Some value
bool_of _ = None

-- the number of a value that is a number of 8 bits
abbrev pub byte_of : HeaderValue → Option ℤ
byte_of (Byte value) = Some value
byte_of _ = None

-- the number of a value that is a number of 16 bits
abbrev pub int16_of : HeaderValue → Option ℤ
int16_of (Int16 value) = Some value
int16_of _ = None

-- the number of a value that is a number of 32 bits
abbrev pub int32_of : HeaderValue → Option ℤ
int32_of (Int32 value) = Some value
int32_of _ = None

-- the number of a value that is a number of 64 bits
abbrev pub int64_of : HeaderValue → Option ℤ
int64_of (Int64 value) = Some value
int64_of _ = None

-- the bytes of a value that is an array of bytes
abbrev pub byte_array_of : HeaderValue → Option (List ℕ)
byte_array_of (ByteArray bytes) = Some bytes
byte_array_of _ = None

-- the text of a value that is a string
abbrev pub string_of : HeaderValue → Option (List ℕ)
string_of (String text) = Some text
string_of _ = None

-- the moment of a value that is one
abbrev pub instant_of : HeaderValue → Option Instant
instant_of (Timestamp t) = Some t
instant_of _ = None

-- the bits of a value that is a UUID, as one number
abbrev pub uuid_bits_of : HeaderValue → Option ℕ
uuid_bits_of (Uuid bits) = Some bits
uuid_bits_of _ = None

-- what a value prints, where that is told: of bytes it isn't
abbrev pub value_text : HeaderValue → Option (List ℕ)
value_text (Truth value) = Some (if value then codes "true" else codes "false")
value_text (Byte value) = Some (signed_decimal value)
value_text (Int16 value) = Some (signed_decimal value)
value_text (Int32 value) = Some (signed_decimal value)
value_text (Int64 value) = Some (signed_decimal value)
value_text (ByteArray bytes) = None
value_text (String text) = Some text
value_text (Timestamp t) = Some (signed_decimal t.secs ++ (codes " " ++ decimal t.nanos))
value_text (Uuid bits) = Some (decimal bits)
