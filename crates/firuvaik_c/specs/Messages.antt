-- The frame of a message for a caller.
use Rattle.std.specs.Prelude.{◌≡◌, ◌⊎◌, ℕ, ℤ, ◌==◌, true, false, List, [], ◌∷◌, length, map, Option, Some, None, Result, Ok, Err, option_map, Vec, if◌then◌else◌}
use Rattle.std.specs.Int.{w8, w16, w32, w128}
use Rattle.std.specs.List.{list_all}
use Rattle.std.specs.Option.{option_or}
use Rattle.std.specs.Str.{is_utf8}
use Rattle.std.specs.declared.alloc.Global.{Global}
use Rattle.smithy_core.specs.Header.{Header}
use Rattle.smithy_core.specs.Message.{Parts}
use Rattle.smithy_core.specs.Moment.{at_ms}
use Rattle.smithy_core.specs.declared.header.HeaderValue.{HeaderValue}
use Rattle.smithy_core.specs.declared.header.HeaderValue.TheVariants.{Bool as Truth, Byte, Int16, Int32, Int64, ByteArray, String as Text, Timestamp, Uuid}
use Rattle.eventstream.specs.Frame.{frame, unframed}
use Rattle.eventstream.specs.Kind.{true_kind, false_kind, byte_kind, int16_kind, int32_kind, int64_kind, byte_array_kind, string_kind, timestamp_kind, uuid_kind}
use Rattle.eventstream.specs.Read.{big_endian}
use Rattle.job_text.specs.Numbers.{if_fits}
use Rattle.firuvaik_c.specs.Asked.{is_text_field, unless_utf8}
use Rattle.firuvaik_c.specs.Faults.{fault_numbered, frame_fault, no_memory, not_text}
use Rattle.firuvaik_c.specs.declared.fault.Fault.{Fault}
use Rattle.firuvaik_c.specs.declared.lent.EventHeader.{EventHeader}
use Rattle.firuvaik_c.specs.declared.lent.Field.{Field}

-- ---- headers whose values are texts

-- a header of a message whose value is a text
abbrev pub text_pair_header : List ℕ → List ℕ → Header
text_pair_header name value = record { name = name; value = Text value }

-- the header that a field is
abbrev pub text_header : Field → Header
text_header field = text_pair_header field.name.now field.value.now

-- the message of these fields and this payload
abbrev pub lent_event : List Field → List ℕ → Parts
lent_event fields payload = record { headers = map text_header fields; payload = payload }

-- why there is no frame: a text isn't one, or the message has none
abbrev pub event_refusal : List Field → List ℕ → Option Fault
event_refusal fields payload =
    option_or (unless_utf8 (list_all is_text_field fields)) (option_map frame_fault (unframed (lent_event fields payload)))

-- the frame of the message, or the first reason why there is none, or memory ran out
abbrev pub FramesTexts : List Field → List ℕ → Result (Vec ℕ Global) Fault → Type 0
FramesTexts fields payload (Ok made) = (event_refusal fields payload ≡ None) × (made.items ≡ frame (lent_event fields payload))
FramesTexts fields payload (Err fault) = (event_refusal fields payload ≡ Some fault) ⊎ (fault ≡ no_memory)

-- ---- headers of every kind

-- a number of a narrow kind, or that it doesn't fit it
abbrev pub narrowed : Option HeaderValue → Result HeaderValue Fault
narrowed (Some value) = Ok value
narrowed None = Err (fault_numbered 41 0)

-- a UTF-8 text
abbrev pub lent_text : List ℕ → Result HeaderValue Fault
lent_text bytes = if is_utf8 bytes then Ok (Text bytes) else Err not_text

-- the 16 bytes of a UUID, the highest first
abbrev pub lent_uuid : List ℕ → Result HeaderValue Fault
lent_uuid bytes = if length bytes == 16 then Ok (Uuid (big_endian w128 bytes)) else Err (fault_numbered 42 0)

-- the value of a kind, as the encoding numbers them, that a number or bytes spell, or why they spell none
unfoldable pub lent_value : ℕ → ℤ → List ℕ → Result HeaderValue Fault
lent_value kind number bytes =
    if kind == true_kind then Ok (Truth true)
    else if kind == false_kind then Ok (Truth false)
    else if kind == byte_kind then narrowed (option_map Byte (if_fits w8 number))
    else if kind == int16_kind then narrowed (option_map Int16 (if_fits w16 number))
    else if kind == int32_kind then narrowed (option_map Int32 (if_fits w32 number))
    else if kind == int64_kind then Ok (Int64 number)
    else if kind == byte_array_kind then Ok (ByteArray bytes)
    else if kind == string_kind then lent_text bytes
    else if kind == timestamp_kind then Ok (Timestamp (at_ms number))
    else if kind == uuid_kind then lent_uuid bytes
    else Err (fault_numbered 40 0)

-- the value of a header as it is lent
abbrev pub value_lent : EventHeader → Result HeaderValue Fault
value_lent lent = lent_value lent.kind lent.number lent.value.now

-- the fault of what there isn't
abbrev pub fault_in : Result HeaderValue Fault → Option Fault
fault_in (Ok value) = None
fault_in (Err fault) = Some fault

-- the value, where there is one
abbrev pub lent_value_or : Result HeaderValue Fault → HeaderValue
lent_value_or (Ok value) = value
lent_value_or (Err fault) = Truth false

-- why a header isn't one: its name isn't UTF-8, or its kind, its number or its bytes spell no value
abbrev pub unlent : EventHeader → Option Fault
unlent lent = option_or (unless_utf8 (is_utf8 lent.name.now)) (fault_in (value_lent lent))

-- the first reason of the headers in order
abbrev pub first_unlent : List EventHeader → Option Fault
first_unlent [] = None
first_unlent (lent ∷ others) = option_or (unlent lent) (first_unlent others)

-- the header that was lent, where it is one
abbrev pub lent_header_of : EventHeader → Header
lent_header_of lent = record { name = lent.name.now; value = lent_value_or (value_lent lent) }

-- the message of these headers and this payload
abbrev pub lent_message : List EventHeader → List ℕ → Parts
lent_message headers payload = record { headers = map lent_header_of headers; payload = payload }

-- why there is no frame: the first header that isn't one, or the message has none
abbrev pub lent_frame_refusal : List EventHeader → List ℕ → Option Fault
lent_frame_refusal headers payload = option_or (first_unlent headers) (option_map frame_fault (unframed (lent_message headers payload)))

-- the frame of headers of every kind, or the first reason why there is none, or memory ran out
abbrev pub FramesHeaders : List EventHeader → List ℕ → Result (Vec ℕ Global) Fault → Type 0
FramesHeaders headers payload (Ok made) = (lent_frame_refusal headers payload ≡ None) × (made.items ≡ frame (lent_message headers payload))
FramesHeaders headers payload (Err fault) = (lent_frame_refusal headers payload ≡ Some fault) ⊎ (fault ≡ no_memory)

-- the value is given, or why there is none, or memory ran out
abbrev pub GivesLentValue : Result HeaderValue Fault → Result HeaderValue Fault → Type 0
GivesLentValue wanted (Ok value) = wanted ≡ Ok value
GivesLentValue wanted (Err fault) = (wanted ≡ Err fault) ⊎ (fault ≡ no_memory)

-- the header is given, or why it isn't one, or memory ran out
abbrev pub GivesLentHeader : EventHeader → Result Header Fault → Type 0
GivesLentHeader lent (Ok header) = (unlent lent ≡ None) × (header ≡ lent_header_of lent)
GivesLentHeader lent (Err fault) = (unlent lent ≡ Some fault) ⊎ (fault ≡ no_memory)
