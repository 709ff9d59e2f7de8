-- The texts of events: lines, as a job has them, and JSON.
use Rattle.std.specs.Prelude.{ℕ, ◌==◌, Bool, true, false, not, ◌&&◌, nat_lt, if◌then◌else◌, List, [], ◌∷◌, ◌++◌, length, codes}
use Rattle.std.specs.Fmt.{decimal, signed_decimal}
use Rattle.std.specs.Int.{w128, to_be_bytes}
use Rattle.std.specs.List.{flat_map, join_by, list_all}
use Rattle.hex.specs.Hex.{encode_lower}
use Rattle.smithy_core.specs.Header.{Header}
use Rattle.smithy_core.specs.Message.{Parts}
use Rattle.smithy_core.specs.Text.{line_feed, space}
use Rattle.smithy_core.specs.declared.header.HeaderValue.{HeaderValue}
use Rattle.smithy_core.specs.declared.header.HeaderValue.TheVariants.{Bool as Truth, Byte, Int16, Int32, Int64, ByteArray, String as Text, Timestamp, Uuid}
use Rattle.awsign_words.specs.declared.events.EventForm.{EventForm}
use Rattle.awsign_words.specs.declared.events.EventForm.TheVariants.{Lines, JsonLines}

-- ## Values

-- the kind of a value, by its word in a job
abbrev pub kind_word : HeaderValue → List ℕ
kind_word (Truth true) = codes "true"
kind_word (Truth false) = codes "false"
kind_word (Byte n) = codes "i8"
kind_word (Int16 n) = codes "i16"
kind_word (Int32 n) = codes "i32"
kind_word (Int64 n) = codes "i64"
kind_word (ByteArray bytes) = codes "bytes"
kind_word (Text text) = codes "text"
kind_word (Timestamp t) = codes "time"
kind_word (Uuid n) = codes "uuid"

-- the value, as a job spells it behind its kind: nothing of true and false
abbrev pub spelled_value : HeaderValue → List ℕ
spelled_value (Truth b) = []
spelled_value (Byte n) = signed_decimal n
spelled_value (Int16 n) = signed_decimal n
spelled_value (Int32 n) = signed_decimal n
spelled_value (Int64 n) = signed_decimal n
spelled_value (ByteArray bytes) = encode_lower bytes
spelled_value (Text text) = text
spelled_value (Timestamp t) = signed_decimal t.secs ++ (codes " " ++ decimal t.nanos)
spelled_value (Uuid n) = encode_lower (to_be_bytes w128 n)

-- ## Lines

-- a text behind a space, where it isn't empty
abbrev pub behind_space : List ℕ → List ℕ
behind_space [] = []
behind_space (byte ∷ text) = codes " " ++ byte ∷ text

-- `h NAME KIND VALUE`
unfoldable pub lined_header : Header → List ℕ
lined_header h = codes "h " ++ (h.name ++ (codes " " ++ (kind_word h.value ++ (behind_space (spelled_value h.value) ++ codes "\n"))))

-- a message in lines: `event`, the headers in order, and `payload HEX`
unfoldable pub lined_message : Parts → List ℕ
lined_message m = codes "event\n" ++ (flat_map lined_header m.headers ++ (codes "payload" ++ (behind_space (encode_lower m.payload) ++ codes "\n")))

-- a byte that ends neither a word nor a line
abbrev pub is_word_byte : ℕ → Bool
is_word_byte b = not (b == space) && not (b == line_feed)

-- a byte that ends no line
abbrev pub is_line_byte : ℕ → Bool
is_line_byte b = not (b == line_feed)

-- a value that fits a line
abbrev pub is_lined_value : HeaderValue → Bool
is_lined_value (Text text) = list_all is_line_byte text
is_lined_value value = true

-- a header that lines can spell: its name is a word, and its value fits a line
abbrev pub is_lined : Header → Bool
is_lined h = not (length h.name == 0) && list_all is_word_byte h.name && is_lined_value h.value

-- ## JSON (RFC 8259)

-- a byte of a string: a quote and a backslash stand behind a backslash, and a control character is `\u` with its four digits
unfoldable pub json_byte : ℕ → List ℕ
json_byte b =
    if b == 34 then codes "\\\""
    else if b == 92 then codes "\\\\"
    else if nat_lt b 32 then codes "\\u00" ++ encode_lower (b ∷ [])
    else b ∷ []

-- a string
unfoldable pub json_string : List ℕ → List ℕ
json_string text = codes "\"" ++ (flat_map json_byte text ++ codes "\"")

-- a header: a list of its name, the word of its kind, and its value as a job spells it
unfoldable pub json_triple : Header → List ℕ
json_triple h = codes "[" ++ (json_string h.name ++ (codes "," ++ (json_string (kind_word h.value) ++ (codes "," ++ (json_string (spelled_value h.value) ++ codes "]")))))

-- headers, with commas between them
abbrev pub json_triples : List Header → List ℕ
json_triples headers = join_by json_triple (codes ",") headers

-- a payload, behind the headers: in hexadecimal
unfoldable pub json_payload : List ℕ → List ℕ
json_payload payload = codes "],\"payload\":" ++ (json_string (encode_lower payload) ++ codes "}\n")

-- a message, as an object on a line: its headers in order, and its payload
unfoldable pub json_message : Parts → List ℕ
json_message m = codes "{\"headers\":[" ++ (json_triples m.headers ++ json_payload m.payload)

-- ## Either

-- a message in a form
abbrev pub message_text : EventForm → Parts → List ℕ
message_text Lines m = lined_message m
message_text JsonLines m = json_message m

-- whether a form can spell a message: JSON spells each
abbrev pub is_spelled : EventForm → Parts → Bool
is_spelled Lines m = list_all is_lined m.headers
is_spelled JsonLines m = true

-- the texts of messages, in order
abbrev pub message_texts : EventForm → List Parts → List ℕ
message_texts form messages = flat_map (message_text form) messages
