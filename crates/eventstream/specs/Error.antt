-- The kinds of errors.
use Rattle.std.specs.Prelude.{◌≡◌, ℕ, Bool, true, false, List, ◌++◌, codes, string_bytes}
use Rattle.std.specs.Fmt.{decimal, digits, signed_decimal}
use Rattle.eventstream.specs.declared.error.Error.{Error}
use Rattle.eventstream.specs.declared.error.ErrorKind.{ErrorKind}
use Rattle.eventstream.specs.declared.error.ErrorKind.TheVariants.{HeadersTooLong, HeaderValueTooLong, InvalidHeaderNameLength, InvalidHeaderValue, InvalidHeaderValueType, InvalidHeadersLength, InvalidMessageLength, InvalidUtf8String, MessageChecksumMismatch, MessageTooLong, PayloadTooLong, PreludeChecksumMismatch, TimestampValueTooLarge, Marshalling, Unmarshalling, NoMemory}

-- the kind of an error
abbrev pub error_kind : Error → ErrorKind
error_kind error = error.kind

-- the error of a kind
abbrev pub error_of : ErrorKind → Error
error_of kind = record { kind = kind }

-- the message itself is at fault
abbrev pub is_invalid_message : ErrorKind → Bool
is_invalid_message HeadersTooLong = true
is_invalid_message HeaderValueTooLong = true
is_invalid_message PayloadTooLong = true
is_invalid_message MessageTooLong = true
is_invalid_message InvalidHeaderNameLength = true
is_invalid_message (TimestampValueTooLarge moment) = true
is_invalid_message (Marshalling message) = true
is_invalid_message _ = false

-- a number in upper-case hexadecimal digits
abbrev pub upper_hex : ℕ → List ℕ
upper_hex n = digits 16 true n

-- the text of two checksums that differ
abbrev pub mismatch : ℕ → ℕ → List ℕ
mismatch computed carried = codes " checksum 0x" ++ (upper_hex carried ++ (codes " didn't match expected checksum 0x" ++ upper_hex computed))

-- what is printed
abbrev pub error_kind_text : ErrorKind → List ℕ
error_kind_text HeadersTooLong = codes "headers too long to fit in event stream frame"
error_kind_text HeaderValueTooLong = codes "header value too long to fit in event stream frame"
error_kind_text InvalidHeaderNameLength = codes "invalid header name length"
error_kind_text InvalidHeaderValue = codes "invalid header value"
error_kind_text (InvalidHeaderValueType kind) = codes "invalid header value type: " ++ decimal kind
error_kind_text InvalidHeadersLength = codes "invalid headers length"
error_kind_text InvalidMessageLength = codes "invalid message length"
error_kind_text InvalidUtf8String = codes "encountered invalid UTF-8 string"
error_kind_text (MessageChecksumMismatch computed carried) = codes "message" ++ mismatch computed carried
error_kind_text MessageTooLong = codes "message too long to fit in event stream frame"
error_kind_text PayloadTooLong = codes "message payload too long to fit in event stream frame"
error_kind_text (PreludeChecksumMismatch computed carried) = codes "prelude" ++ mismatch computed carried
error_kind_text (TimestampValueTooLarge moment) = codes "timestamp value " ++ (signed_decimal moment.secs ++ codes " is too large to fit into an i64")
error_kind_text (Marshalling message) = codes "failed to marshall message: " ++ string_bytes message
error_kind_text (Unmarshalling message) = codes "failed to unmarshall message: " ++ string_bytes message
error_kind_text NoMemory = codes "no memory"

-- the kinds of errors are the same, and so are their texts
abbrev pub IsSameKind : ErrorKind → ErrorKind → Type 0
IsSameKind (Marshalling message) (Marshalling copy) = string_bytes copy ≡ string_bytes message
IsSameKind (Unmarshalling message) (Unmarshalling copy) = string_bytes copy ≡ string_bytes message
IsSameKind kind copy = copy ≡ kind
