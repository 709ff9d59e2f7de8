-- The headers of events: `NAME KIND VALUE`.
use Rattle.std.specs.Prelude.{ℕ, ◌==◌, true, false, if◌then◌else◌, List, length, codes, bytes_eq, Option, Some, None, option_map, ℤ}
use Rattle.std.specs.Int.{w8, w16, w32, w64, w128, from_be_bytes}
use Rattle.std.specs.Result.{result_ok}
use Rattle.hex.specs.Hex.{decode_of, decode_sized}
use Rattle.smithy_core.specs.Header.{Header}
use Rattle.smithy_core.specs.declared.header.HeaderValue.{HeaderValue}
use Rattle.smithy_core.specs.declared.header.HeaderValue.TheVariants.{Bool as Truth, Byte, Int16, Int32, Int64, ByteArray, String as Text, Timestamp, Uuid}
use Rattle.smithy_core.specs.Moment.{Instant}
use Rattle.job_text.specs.Lines.{after_word_of, word_of}
use Rattle.job_text.specs.Numbers.{natural_below, number}

-- the bytes of an even number of hexadecimal digits, in either case
unfoldable pub hex_bytes : List ℕ → Option (List ℕ)
hex_bytes digits = result_ok (decode_of digits)

-- the number of 32 hexadecimal digits, in either case, the highest first
unfoldable pub spelled_uuid : List ℕ → Option ℕ
spelled_uuid digits = option_map (from_be_bytes w128) (result_ok (decode_sized digits 16))

-- these seconds and nanoseconds
abbrev pub moment_of : Option ℤ → Option ℕ → Option Instant
moment_of (Some secs) (Some nanos) = Some (record { secs = secs; nanos = nanos })
moment_of (Some secs) None = None
moment_of None nanos = None

-- the moment of `SECS NANOS`
unfoldable pub spelled_time : List ℕ → Option Instant
spelled_time text = moment_of (number w64 (word_of text)) (natural_below 1000000000 (after_word_of text))

-- the value, where the text is empty
abbrev pub if_empty : List ℕ → HeaderValue → Option HeaderValue
if_empty text value = if length text == 0 then Some value else None

-- the value of a kind of numbers with a sign
unfoldable pub number_value : List ℕ → List ℕ → Option HeaderValue
number_value kind text =
    if bytes_eq kind (codes "i8") then option_map Byte (number w8 text)
    else if bytes_eq kind (codes "i16") then option_map Int16 (number w16 text)
    else if bytes_eq kind (codes "i32") then option_map Int32 (number w32 text)
    else if bytes_eq kind (codes "i64") then option_map Int64 (number w64 text)
    else None

-- the value of a kind whose values are of one length
unfoldable pub fixed_value : List ℕ → List ℕ → Option HeaderValue
fixed_value kind text =
    if bytes_eq kind (codes "true") then if_empty text (Truth true)
    else if bytes_eq kind (codes "false") then if_empty text (Truth false)
    else if bytes_eq kind (codes "time") then option_map Timestamp (spelled_time text)
    else if bytes_eq kind (codes "uuid") then option_map Uuid (spelled_uuid text)
    else number_value kind text

-- the value of `KIND VALUE`
unfoldable pub header_value : List ℕ → List ℕ → Option HeaderValue
header_value kind text =
    if bytes_eq kind (codes "bytes") then option_map ByteArray (hex_bytes text)
    else if bytes_eq kind (codes "text") then Some (Text text)
    else fixed_value kind text

-- the header of `NAME KIND VALUE`; NAME isn't empty
unfoldable pub event_header : List ℕ → Option Header
event_header rest =
    if length (word_of rest) == 0 then None
    else option_map (λ value. record { name = word_of rest; value = value }) (header_value (word_of (after_word_of rest)) (after_word_of (after_word_of rest)))
