-- How events are encoded: which messages lines spell, and their frames.
use Rattle.std.specs.Prelude.{◌≡◌, ◌⊎◌, IsErrAnd, ℕ, ◌+◌, ◌-◌, ◌==◌, Bool, true, false, ◌||◌, is_none, if◌then◌else◌, List, [], ◌∷◌, ◌++◌, length, codes, bytes_eq, Option, Some, Result, Ok, Err}
use Rattle.std.specs.Global.{Vec}
use Rattle.std.specs.List.{flat_map, list_all, starts_with}
use Rattle.hex.specs.Hex.{encode_lower}
use Rattle.smithy_core.specs.Message.{Parts}
use Rattle.smithy_core.specs.Outside.{Gains, GainsPrefix, GainsProperPrefix, IsAllOf}
use Rattle.smithy_core.specs.Text.{line}
use Rattle.job_text.specs.Job.{JobParts, job}
use Rattle.job_text.specs.declared.fault.JobFault.{JobFault}
use Rattle.job_text.specs.declared.fault.JobFault.TheVariants as job_fault
use Rattle.eventstream.specs.Error.{error_kind}
use Rattle.eventstream.specs.Frame.{frame, unframed}
use Rattle.eventstream.specs.declared.error.Error.{Error}
use Rattle.eventstream.specs.declared.error.ErrorKind.{ErrorKind}
use Rattle.eventstream.specs.declared.error.ErrorKind.TheVariants as kind
use Rattle.awsign_run.specs.declared.status.Status.TheVariants.{Done, NoMemory, OutputFault}
use Rattle.awsign_events.specs.HexInput.{LacksInput}
use Rattle.awsign_events.specs.declared.status.EventsStatus.{EventsStatus}
use Rattle.awsign_events.specs.declared.status.EventsStatus.TheVariants.{BadLine, Ended, Unframed}

-- ## What lines spell

-- the first line is `event`
abbrev pub begins_with_event : List ℕ → Bool
begins_with_event text = starts_with (λ a b. a == b) text (codes "event\n") || bytes_eq text (codes "event")

-- two lines of a request, which stand before the events of a job
abbrev pub request_lines : List ℕ
request_lines = codes "method GET\ntarget /\n"

-- the events of a job that has two lines before the others
abbrev pub events_behind : Result JobParts ℕ → Result (List Parts) ℕ
events_behind (Ok parts) = Ok parts.events
events_behind (Err place) = Err (place - 2)

-- the messages that lines spell, or the place of the first bad line: the first line is `event`, and they are the events of the job that goes on with the
-- lines behind its request
unfoldable pub spelled_messages : List ℕ → Result (List Parts) ℕ
spelled_messages text =
    if length text == 0 then Ok []
    else if begins_with_event text then events_behind (job (request_lines ++ text))
    else Err 1

-- ## Frames

-- a frame as it is written: its bytes, or a line of hexadecimal
abbrev pub framed_text : Bool → List ℕ → List ℕ
framed_text false bytes = bytes
framed_text true bytes = line (encode_lower bytes)

-- the frame of a message as it is written
abbrev pub written_frame : Bool → Parts → List ℕ
written_frame is_hex message = framed_text is_hex (frame message)

-- the message has a frame
abbrev pub is_framed : Parts → Bool
is_framed message = is_none (unframed message)

-- ## The run

-- the frames of all messages are this text; or the first one that has none is told; or memory ran out
abbrev pub EncodesMessages : Bool → List Parts → Result (Vec ℕ) EventsStatus → Type 0
EncodesMessages is_hex messages (Ok text) = (list_all is_framed messages ≡ true) × (text.items ≡ flat_map (written_frame is_hex) messages)
EncodesMessages is_hex messages (Err (Unframed place error)) =
    (front : List Parts) × (message : Parts) × (others : List Parts) × (messages ≡ front ++ message ∷ others) × (list_all is_framed front ≡ true)
    × (place ≡ length front + 1) × (unframed message ≡ Some (error_kind error))
EncodesMessages is_hex messages (Err (Ended NoMemory)) = Unit {0}
EncodesMessages is_hex messages (Err status) = ⊥

-- the lines spell messages whose frames are this text, or one of them is bad
abbrev pub EncodesSpelled : Bool → Result (List Parts) ℕ → Result (Vec ℕ) EventsStatus → Type 0
EncodesSpelled is_hex (Ok messages) result = EncodesMessages is_hex messages result
EncodesSpelled is_hex (Err place) (Err (BadLine at)) = at ≡ place
EncodesSpelled is_hex (Err place) (Err (Ended NoMemory)) = Unit {0}
EncodesSpelled is_hex (Err place) result = ⊥

-- the input was read, and its lines were encoded, or why it wasn't
abbrev pub EncodesAll : Bool → Option (List ℕ) → Result (Vec ℕ) EventsStatus → Type 0
EncodesAll is_hex left result = ((text : List ℕ) × IsAllOf left text × EncodesSpelled is_hex (spelled_messages text) result) ⊎ IsErrAnd result (LacksInput left)

-- the output gained the frames of the messages that the lines of the input spell, or a front of them where the output failed or memory ran out; and
-- nothing, where a line is bad or a message has no frame
abbrev pub EncodesInput : Bool → Option (List ℕ) → EventsStatus → Option (List ℕ) → Option (List ℕ) → Type 0
EncodesInput is_hex left (Ended Done) before now = (text : Vec ℕ) × EncodesAll is_hex left (Ok text) × Gains before now text.items
EncodesInput is_hex left (Ended OutputFault) before now = (text : Vec ℕ) × EncodesAll is_hex left (Ok text) × GainsPrefix before now text.items
EncodesInput is_hex left status before now =
    (EncodesAll is_hex left (Err status) × (now ≡ before))
    ⊎ ((status ≡ Ended NoMemory) × ((text : Vec ℕ) × EncodesAll is_hex left (Ok text) × GainsPrefix before now text.items))

-- ## Between the functions of `encode_events`

-- the lines spell these messages, or this line is the first bad one; or memory ran out
abbrev pub SpellsMessages : Result (List Parts) ℕ → Result (Vec Parts) JobFault → Type 0
SpellsMessages spelled (Ok messages) = spelled ≡ Ok messages.items
SpellsMessages spelled (Err (job_fault.BadLine place)) = spelled ≡ Err place
SpellsMessages spelled (Err job_fault.NoMemory) = Unit {0}

-- all of a text was written, or a part of it where the output failed or memory ran out
abbrev pub WritesEncoded : List ℕ → EventsStatus → Option (List ℕ) → Option (List ℕ) → Type 0
WritesEncoded text (Ended Done) before now = Gains before now text
WritesEncoded text (Ended OutputFault) before now = GainsProperPrefix before now text
WritesEncoded text (Ended NoMemory) before now = GainsProperPrefix before now text
WritesEncoded text status before now = ⊥

-- the fault, where the two lines of the request don't count
abbrev pub without_request : JobFault → JobFault
without_request (job_fault.BadLine place) = job_fault.BadLine (place - 2)
without_request job_fault.NoMemory = job_fault.NoMemory

-- the message at a place has this frame, or none; or memory ran out
abbrev pub MakesFrame : ℕ → Parts → Result (Vec ℕ) EventsStatus → Type 0
MakesFrame place message (Ok bytes) = (is_framed message ≡ true) × (bytes.items ≡ frame message)
MakesFrame place message (Err (Unframed at error)) = (at ≡ place) × (unframed message ≡ Some (error_kind error))
MakesFrame place message (Err (Ended NoMemory)) = Unit {0}
MakesFrame place message (Err status) = ⊥

-- how encoding stops at a message that isn't written
abbrev pub no_frame_of : ℕ → Error → ErrorKind → EventsStatus
no_frame_of place error kind.NoMemory = Ended NoMemory
no_frame_of place error other = Unframed place error

abbrev pub no_frame : ℕ → Error → EventsStatus
no_frame place error = no_frame_of place error (error_kind error)
