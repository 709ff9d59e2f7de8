-- The headers of a response, by which a client tells what kind of event or exception a message is.
use Rattle.std.specs.Prelude.{ℕ, if◌then◌else◌, bytes_eq, List, codes, find, reverse, Option, option_map, option_copied, Result, Ok, Err}
use Rattle.std.specs.Option.{ok_or, option_map_or, option_transpose}
use Rattle.smithy_core.specs.HeaderValue.{string_of}
use Rattle.smithy_core.specs.Header.{Header}
use Rattle.smithy_core.specs.declared.header.HeaderValue.{HeaderValue}
use Rattle.eventstream.specs.Texts.{missing_text, no_text, unrecognized_text}
use Rattle.eventstream.specs.Bind.{◌>>=◌}
use Rattle.eventstream.specs.declared.response_headers.ResponseHeaders.{ResponseHeaders}

-- the texts of the headers of a response
pub record Response : Type 0 where
  pub content_type : Option (List ℕ)
  pub message_type : List ℕ
  pub smithy_type : List ℕ

-- the three texts of a response's headers, from the references to them
abbrev pub response_in : ResponseHeaders → Response
response_in headers = record {
  content_type = option_copied headers.content_type;
  message_type = headers.message_type.now;
  smithy_type = headers.smithy_type.now;
}

-- the value of the last header of the name
abbrev pub last_named : List ℕ → List Header → Option HeaderValue
last_named name headers = option_map (λ h. h.value) (find (λ h. bytes_eq h.name name) (reverse headers))

-- the value of a header has to be a text
abbrev pub text_named : List ℕ → HeaderValue → Result (List ℕ) (List ℕ)
text_named name value = ok_or (string_of value) (no_text name value)

-- the text of the last header of the name, which has to be there
unfoldable pub required_text : List ℕ → List Header → Result (List ℕ) (List ℕ)
required_text name headers = option_map_or (text_named name) (last_named name headers) (Err (missing_text name))

-- the text of the last header of the name, where there is one
unfoldable pub optional_text : List ℕ → List Header → Result (Option (List ℕ)) (List ℕ)
optional_text name headers = option_transpose (option_map (text_named name) (last_named name headers))

-- the type of an event or of an exception
unfoldable pub smithy_type_of : List ℕ → List Header → Result (List ℕ) (List ℕ)
smithy_type_of message_type headers =
    if bytes_eq message_type (codes "event") then required_text (codes ":event-type") headers
    else if bytes_eq message_type (codes "exception") then required_text (codes ":exception-type") headers
    else Err (unrecognized_text message_type)

-- the headers of a response; the first that fails in this order decides
unfoldable pub response_of : List Header → Result Response (List ℕ)
response_of headers = do
  message_type ← required_text (codes ":message-type") headers
  content_type ← optional_text (codes ":content-type") headers
  smithy_type ← smithy_type_of message_type headers
  Ok (record { content_type = content_type; message_type = message_type; smithy_type = smithy_type })
