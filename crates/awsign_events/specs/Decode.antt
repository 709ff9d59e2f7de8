-- How frames are decoded: which messages the bytes begin with, and what the output gained.
use Rattle.std.specs.Prelude.{◌≡◌, ◌⊎◌, ℕ, ◌<◌, Bool, true, false, List, [], length, Option, Result, Ok, Err}
use Rattle.std.specs.List.{list_all}
use Rattle.smithy_core.specs.Calls.{one_more}
use Rattle.smithy_core.specs.Message.{Parts}
use Rattle.smithy_core.specs.Outside.{Gains, GainsPrefix, IsAtEnd, IsCutOf}
use Rattle.eventstream.specs.Decode.{IsUnfinished}
use Rattle.eventstream.specs.Error.{error_kind}
use Rattle.eventstream.specs.Reading.{Begin, begins, fault, first_of}
use Rattle.eventstream.specs.declared.error.Error.{Error}
use Rattle.eventstream.specs.declared.error.ErrorKind.{ErrorKind}
use Rattle.eventstream.specs.declared.error.ErrorKind.TheVariants as kind
use Rattle.awsign_words.specs.declared.events.EventForm.{EventForm}
use Rattle.awsign_run.specs.declared.status.Status.TheVariants.{Done, NoMemory, OutputFault}
use Rattle.awsign_events.specs.EventText.{is_spelled, message_text, message_texts}
use Rattle.awsign_events.specs.declared.decode.Frames.{Frames}
use Rattle.awsign_events.specs.declared.status.EventsStatus.{EventsStatus}
use Rattle.awsign_events.specs.declared.status.EventsStatus.TheVariants.{CutShort, Ended, InputFault, Unspelled, WrongFrame}

-- The bytes begin with these messages, one after another, which the form can spell; then these bytes follow, at the place behind, which is counted up to 2^64 - 1; and the output gained the
-- texts of the messages.
pub record Shows (form : EventForm) (bytes rest : List ℕ) (place : ℕ) (before now : Option (List ℕ)) : Type 0 where
  pub messages : List Parts
  pub begin : Begin messages bytes rest
  pub spelled : list_all (is_spelled form) messages ≡ true
  pub placed : place ≡ one_more (length messages)
  pub gains : Gains before now (message_texts form messages)

-- the bytes begin with these messages, which the form can spell, and the output gained a front of their texts
pub record ShowsPart (form : EventForm) (bytes : List ℕ) (before now : Option (List ℕ)) : Type 0 where
  pub messages : List Parts
  pub rest : List ℕ
  pub begin : Begin messages bytes rest
  pub spelled : list_all (is_spelled form) messages ≡ true
  pub gains : GainsPrefix before now (message_texts form messages)

-- How the bytes taken end a run, of which these are left: all of them are shown; or all before the frame at this place are, which is none, or isn't
-- there whole, or whose message the form can't spell; or all that are there whole, where the input failed. Where the output failed or memory ran out, a
-- front of them is.
abbrev pub EndsDecoding : EventForm → List ℕ → Option (List ℕ) → EventsStatus → Option (List ℕ) → Option (List ℕ) → Type 0
EndsDecoding form taken left (Ended Done) before now = IsAtEnd left × (place : ℕ) × Shows form taken [] place before now
EndsDecoding form taken left (WrongFrame place error) before now = (rest : List ℕ) × Shows form taken rest place before now × (first_of rest ≡ fault (error_kind error))
EndsDecoding form taken left (CutShort place) before now =
    IsAtEnd left × (rest : List ℕ) × Shows form taken rest place before now × IsUnfinished (first_of rest) × (0 < length rest)
EndsDecoding form taken left (Unspelled place) before now =
    (rest : List ℕ) × Shows form taken rest place before now × (message : Parts) × (others : List ℕ) × (first_of rest ≡ begins message others) × (is_spelled form message ≡ false)
EndsDecoding form taken left InputFault before now = (rest : List ℕ) × (place : ℕ) × Shows form taken rest place before now × IsUnfinished (first_of rest)
EndsDecoding form taken left (Ended OutputFault) before now = ShowsPart form taken before now
EndsDecoding form taken left (Ended NoMemory) before now = ShowsPart form taken before now
EndsDecoding form taken left status before now = ⊥

-- what a run decoded: bytes that it took of the input, which tells what it has left
abbrev pub DecodesInput : EventForm → Option (List ℕ) → Option (List ℕ) → EventsStatus → Option (List ℕ) → Option (List ℕ) → Type 0
DecodesInput form all left status before now = (taken : List ℕ) × IsCutOf all taken left × EndsDecoding form taken left status before now

-- ## Between the functions of `decode_events`

-- how the bytes taken end a run that is done, or isn't
abbrev pub EndsDecodingAs : EventForm → List ℕ → Option (List ℕ) → Option (List ℕ) → Option (List ℕ) → Result (Unit {0}) EventsStatus → Type 0
EndsDecodingAs form taken left before now (Ok _) = EndsDecoding form taken left (Ended Done) before now
EndsDecodingAs form taken left before now (Err status) = EndsDecoding form taken left status before now

-- the bytes that were taken of an input end a run so
abbrev pub ReadsFrames : EventForm → Option (List ℕ) → Option (List ℕ) → Option (List ℕ) → Option (List ℕ) → Result (Unit {0}) EventsStatus → Type 0
ReadsFrames form all left before now result = (taken : List ℕ) × IsCutOf all taken left × EndsDecodingAs form taken left before now result

-- how decoding stops before the input ends
abbrev pub StopsDecoding : EventForm → List ℕ → EventsStatus → Option (List ℕ) → Option (List ℕ) → Type 0
StopsDecoding form bytes (WrongFrame place error) before now = (rest : List ℕ) × Shows form bytes rest place before now × (first_of rest ≡ fault (error_kind error))
StopsDecoding form bytes (Unspelled place) before now =
    (rest : List ℕ) × Shows form bytes rest place before now × (message : Parts) × (others : List ℕ) × (first_of rest ≡ begins message others) × (is_spelled form message ≡ false)
StopsDecoding form bytes (Ended OutputFault) before now = ShowsPart form bytes before now
StopsDecoding form bytes (Ended NoMemory) before now = ShowsPart form bytes before now
StopsDecoding form bytes status before now = ⊥

-- the bytes are shown up to those that wait
abbrev pub ShowsUpTo : EventForm → List ℕ → Frames → Option (List ℕ) → Option (List ℕ) → Type 0
ShowsUpTo form bytes frames before now = Shows form bytes frames.waiting.bytes frames.place before now

-- no whole frame waits
abbrev pub WaitsUnfinished : Frames → Type 0
WaitsUnfinished frames = IsUnfinished (first_of frames.waiting.bytes)

-- one frame more is shown, or none is there whole
abbrev pub ShowsOne : EventForm → List ℕ → Frames → Option (List ℕ) → Option (List ℕ) → Result Bool EventsStatus → Type 0
ShowsOne form bytes frames before now (Ok true) = ShowsUpTo form bytes frames before now
ShowsOne form bytes frames before now (Ok false) = ShowsUpTo form bytes frames before now × WaitsUnfinished frames
ShowsOne form bytes frames before now (Err status) = StopsDecoding form bytes status before now

-- all frames are shown that are there whole
abbrev pub ShowsWhole : EventForm → List ℕ → Frames → Option (List ℕ) → Option (List ℕ) → Result (Unit {0}) EventsStatus → Type 0
ShowsWhole form bytes frames before now (Ok _) = ShowsUpTo form bytes frames before now × WaitsUnfinished frames
ShowsWhole form bytes frames before now (Err status) = StopsDecoding form bytes status before now

-- a message is written in a form, or a front of it where the output fails or memory runs out; or the form can't spell it
abbrev pub WritesMessage : EventForm → ℕ → Parts → Option (List ℕ) → Option (List ℕ) → Result (Unit {0}) EventsStatus → Type 0
WritesMessage form place message before now (Ok _) = (is_spelled form message ≡ true) × Gains before now (message_text form message)
WritesMessage form place message before now (Err (Unspelled at)) = (is_spelled form message ≡ false) × (at ≡ place) × (now ≡ before)
WritesMessage form place message before now (Err (Ended OutputFault)) = (is_spelled form message ≡ true) × GainsPrefix before now (message_text form message)
WritesMessage form place message before now (Err (Ended NoMemory)) = (now ≡ before) ⊎ ((is_spelled form message ≡ true) × GainsPrefix before now (message_text form message))
WritesMessage form place message before now (Err status) = ⊥

-- how decoding stops at a frame that isn't read
abbrev pub wrong_frame_of : ℕ → Error → ErrorKind → EventsStatus
wrong_frame_of place error kind.NoMemory = Ended NoMemory
wrong_frame_of place error other = WrongFrame place error

abbrev pub wrong_frame : ℕ → Error → EventsStatus
wrong_frame place error = wrong_frame_of place error (error_kind error)
