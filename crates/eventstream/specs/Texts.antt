-- Why a message is no event: the texts, and what the calls that answer them promise.
use Rattle.std.specs.Prelude.{◌≡◌, ℕ, Bool, if◌then◌else◌, List, ◌++◌, codes, string_bytes, Result, Ok, Err}
use Rattle.std.specs.Fmt.{decimal, signed_decimal}
use Rattle.hex.specs.Hex.{encode_lower}
use Rattle.smithy_core.specs.Moment.{Instant}
use Rattle.smithy_core.specs.declared.header.HeaderValue.{HeaderValue}
use Rattle.smithy_core.specs.declared.header.HeaderValue.TheVariants.{Bool as Truth, Byte, Int16, Int32, Int64, ByteArray, String as Text, Timestamp, Uuid}
use Rattle.eventstream.specs.declared.error.ErrorKind.{ErrorKind}
use Rattle.eventstream.specs.declared.error.ErrorKind.TheVariants.{NoMemory, Unmarshalling}
use Rattle.eventstream.specs.declared.error.Error.{Error}
use Rattle.eventstream.specs.Error.{error_kind}

-- `true` or `false`
abbrev pub truth_text : Bool → List ℕ
truth_text b = if b then codes "true" else codes "false"

-- the seconds, one space and the nanoseconds
abbrev pub moment_text : Instant → List ℕ
moment_text t = signed_decimal t.secs ++ (codes " " ++ decimal t.nanos)

-- the name of a kind and, in round brackets, the value
abbrev pub shown : List ℕ → List ℕ → List ℕ
shown kind value = kind ++ (codes "(" ++ (value ++ codes ")"))

-- a value as it is printed
unfoldable pub shown_value : HeaderValue → List ℕ
shown_value (Truth b) = shown (codes "Bool") (truth_text b)
shown_value (Byte n) = shown (codes "Byte") (signed_decimal n)
shown_value (Int16 n) = shown (codes "Int16") (signed_decimal n)
shown_value (Int32 n) = shown (codes "Int32") (signed_decimal n)
shown_value (Int64 n) = shown (codes "Int64") (signed_decimal n)
shown_value (ByteArray bytes) = shown (codes "ByteArray") (encode_lower bytes)
shown_value (Text text) = shown (codes "String") text
shown_value (Timestamp t) = shown (codes "Timestamp") (moment_text t)
shown_value (Uuid n) = shown (codes "Uuid") (decimal n)

-- the value of the header is of another kind than this one
unfoldable pub unexpected_text : List ℕ → List ℕ → List ℕ
unexpected_text name kind = codes "expected '" ++ (name ++ (codes "' header value to be " ++ kind))

-- the value of a header of a response is no text
unfoldable pub no_text : List ℕ → HeaderValue → List ℕ
no_text name value = codes "expected response " ++ (name ++ (codes " header to be string, received " ++ shown_value value))

-- a response lacks the header
unfoldable pub missing_text : List ℕ → List ℕ
missing_text name = codes "expected response to include " ++ (name ++ codes " header, but it was missing")

-- a response is neither an event nor an exception
unfoldable pub unrecognized_text : List ℕ → List ℕ
unrecognized_text message_type = codes "unrecognized `:message-type`: " ++ message_type

-- the error is that a message is no event, with this text, or memory ran out
abbrev pub Tells : List ℕ → ErrorKind → Type 0
Tells text (Unmarshalling message) = string_bytes message ≡ text
Tells text NoMemory = Unit {0}
Tells text _ = ⊥

-- the error tells the text where there is one; else it is `NoMemory`
abbrev pub Refuses : {A : Type 0} → Result A (List ℕ) → ErrorKind → Type 0
Refuses (Ok x) kind = kind ≡ NoMemory
Refuses (Err text) kind = Tells text kind

-- the part that is asked for is the answer, as contracts see it; where a text says why there is none, the error carries that text
abbrev pub Answers : {A B : Type 0} → (B → A) → Result A (List ℕ) → Result B Error → Type 0
Answers seen wanted (Ok x) = wanted ≡ Ok (seen x)
Answers seen wanted (Err e) = Refuses wanted (error_kind e)

-- the error tells the text, and there is one
abbrev pub RefusesOnly : {A : Type 0} → Result A (List ℕ) → ErrorKind → Type 0
RefusesOnly (Ok x) kind = ⊥
RefusesOnly (Err text) kind = Tells text kind

-- the part that is asked for takes no memory: it is answered wherever it is there; where a text says why there is none, the error carries that text
abbrev pub AnswersAtOnce : {A B : Type 0} → (B → A) → Result A (List ℕ) → Result B Error → Type 0
AnswersAtOnce seen wanted (Ok x) = wanted ≡ Ok (seen x)
AnswersAtOnce seen wanted (Err e) = RefusesOnly wanted (error_kind e)
