-- The job: lines, each a word, or a word, one space and a rest. Each line moves the draft of the job on, or is bad.
use Rattle.std.specs.Prelude.{ℕ, ◌==◌, not, ◌||◌, nat_lt, if◌then◌else◌, List, [], ◌∷◌, ◌++◌, length, codes, bytes_eq, Option, Some, None, is_some, option_map, unwrap_or, Result, Ok, Err}
use Rattle.std.specs.Option.{option_to_list}
use Rattle.smithy_core.specs.Message.{Parts}
use Rattle.smithy_core.specs.Header.{Header}
use Rattle.job_text.specs.EventHeader.{hex_bytes, event_header}
use Rattle.job_text.specs.Lines.{after_text, after_word_of, text_lines, word_of}
use Rattle.job_text.specs.Pieces.{after_pieces, taken_from}
use Rattle.job_text.specs.RequestLines.{RequestDraft, RequestParts, has_request, no_request, request_step, whole_request}

-- ## Events

-- an event that is read: its headers, and its payload where the line stood
pub record Event : Type 0 where
  pub headers : List Header
  pub payload : Option (List ℕ)

-- the message of an event; without its line the payload is empty
abbrev pub event_message : Event → Parts
event_message event = record { headers = event.headers; payload = unwrap_or event.payload [] }

-- ## The draft

-- what the lines so far gave: the request with the texts of profile files, the finished events, and the open one
pub record Draft : Type 0 where
  pub request : RequestDraft
  pub events : List Parts
  pub event : Option Event

abbrev pub no_draft : Draft
no_draft = record { request = no_request; events = []; event = None }

-- the events, with the one that is open
abbrev pub events_of : Draft → List Parts
events_of draft = draft.events ++ option_to_list (option_map event_message draft.event)

-- `event`: its rest is empty, and the method and the target stood before
unfoldable pub event_step : Draft → List ℕ → Option Draft
event_step draft rest =
    if nat_lt 0 (length rest) || not (has_request draft.request) then None
    else Some (record draft { events = events_of draft; event = Some (record { headers = []; payload = None }) })

-- `h NAME KIND VALUE`, of the event that is open
unfoldable pub event_header_step : Draft → Event → List ℕ → Option Draft
event_header_step draft event rest =
    option_map (λ header. record draft { event = Some (record event { headers = event.headers ++ header ∷ [] }) }) (event_header rest)

-- `payload HEX`, of the event that is open: once, an even number of digits in either case
unfoldable pub payload_step : Draft → Event → List ℕ → Option Draft
payload_step draft event rest =
    if is_some event.payload then None
    else option_map (λ payload. record draft { event = Some (record event { payload = Some payload }) }) (hex_bytes rest)

-- a line of the event that is open
abbrev pub in_event : Option Event → (Event → Option Draft) → Option Draft
in_event None step = None
in_event (Some event) step = step event

-- a line of the request or of a profile file's text
unfoldable pub before_events_step : Draft → List ℕ → List ℕ → Option Draft
before_events_step draft word rest = option_map (λ request. record draft { request = request }) (request_step draft.request word rest)

-- what a line of this word and this rest does; lines of the request stand before the first `event`
unfoldable pub word_step : Draft → List ℕ → List ℕ → Option Draft
word_step draft word rest =
    if bytes_eq word (codes "event") then event_step draft rest
    else if bytes_eq word (codes "h") then in_event draft.event (λ event. event_header_step draft event rest)
    else if bytes_eq word (codes "payload") then in_event draft.event (λ event. payload_step draft event rest)
    else if is_some draft.event then None
    else before_events_step draft word rest

-- what a line does; an empty one does nothing
unfoldable pub job_line_step : Draft → List ℕ → Option Draft
job_line_step draft line = if length line == 0 then Some draft else word_step draft (word_of line) (after_word_of line)

-- ## The job

-- a job; without a line of its own the body is empty
pub record JobParts : Type 0 where
  pub method : List ℕ
  pub target : List ℕ
  pub headers : List (List ℕ × List ℕ)
  pub body : List ℕ
  pub config : Option (List ℕ)
  pub credentials : Option (List ℕ)
  pub events : List Parts

-- a request with events behind it
abbrev pub with_events : List Parts → Result RequestParts ℕ → Result JobParts ℕ
with_events events (Ok read) =
    Ok (record { method = read.method; target = read.target; headers = read.headers; body = read.body; config = read.texts.config; credentials = read.texts.credentials; events = events })
with_events events (Err place) = Err place

-- the lines are over: the job, or the place after the last line
abbrev pub whole_job : ℕ → Draft → Result JobParts ℕ
whole_job place draft = with_events (events_of draft) (whole_request place draft.request)

-- the job that the bytes spell, or the place of the first bad line
unfoldable pub job : List ℕ → Result JobParts ℕ
job bytes = after_text (λ lines. after_pieces whole_job (taken_from job_line_step 1 no_draft lines)) (text_lines bytes)
