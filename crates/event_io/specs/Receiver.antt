-- What a receiver promises of each call: the message that it kept, or else the next one of the bytes that it has at hand, or why
-- there is none.
use Rattle.std.specs.Prelude.{◌≡◌, ℕ, ◌<◌, ◌≤◌, ◌⊎◌, length, drop, Bool, true, false, if◌then◌else◌, List, [], ◌∷◌, ◌++◌, Option, Some, None, Result, Ok, Err}
use Rattle.smithy_core.specs.FrameSource.{IsDrained}
use Rattle.smithy_core.specs.Message.{Parts}
use Rattle.smithy_core.specs.Outside.{RoseOrStands}
use Rattle.smithy_core.specs.declared.outside.frame_part.FramePart.{FramePart}
use Rattle.smithy_core.specs.declared.outside.frame_source.FrameSource as FrameSource
use Rattle.smithy_core.specs.declared.raw_message.RawMessage.TheVariants.{Decoded, Invalid}
use Rattle.smithy_core.specs.declared.sdk_error.SdkError.TheVariants.{DispatchFailure, NoMemory, ResponseError, ServiceError}
use Rattle.eventstream.specs.Decode.{IsUnfinished}
use Rattle.eventstream.specs.Error.{error_kind}
use Rattle.eventstream.specs.Reading.{First, fault, leftover, begins, first_of, reading}
use Rattle.eventstream.specs.declared.error.Error.{Error}
use Rattle.eventstream.specs.declared.unmarshall.UnmarshallMessage as UnmarshallMessage
use Rattle.eventstream.specs.declared.unmarshall.UnmarshalledMessage.{UnmarshalledMessage}
use Rattle.eventstream.specs.declared.unmarshall.UnmarshalledMessage.TheVariants as made
use Rattle.eventstream.specs.Unmarshall.{PassesMessage}
use Rattle.event_io.specs.Frames.{TakesFrames, frames_data, idle_count, most_idle, one_if_idle}
use Rattle.event_io.specs.Received.{is_initial}
use Rattle.event_io.specs.ResponseFault.{ReceiveError, is_want}
use Rattle.event_io.specs.Stop.{NamesStopWant}
use Rattle.event_io.specs.declared.coming.Coming.{Coming}
use Rattle.event_io.specs.declared.coming.Front.{Front}
use Rattle.event_io.specs.declared.coming.Made.{Made}
use Rattle.event_io.specs.declared.coming.Made.TheVariants.{Answer, Back}
use Rattle.event_io.specs.declared.received.InitialMessageType.{InitialMessageType}
use Rattle.event_io.specs.declared.received.Received.{Received}
use Rattle.event_io.specs.declared.received.Received.TheVariants as received
use Rattle.event_io.specs.declared.received.Tried.{Tried}
use Rattle.event_io.specs.declared.received.Tried.TheVariants as tried
use Rattle.event_io.specs.declared.receiver.Receiver.{Receiver}
use Rattle.event_io.specs.declared.response_fault.ResponseFault.{ResponseFault}
use Rattle.event_io.specs.declared.response_fault.ResponseFault.TheVariants.{Frame, UnexpectedEndOfStream, Unmarshall, Preprocessor}
use Rattle.event_io.specs.declared.stop.Silence.{Silence}
use Rattle.event_io.specs.declared.stop.Silence.TheVariants as silence
use Rattle.event_io.specs.declared.stop.Stop.{Stop}
use Rattle.event_io.specs.declared.stop.Stop.TheVariants as stop

-- ## Why there is no message

-- why an error is answered, where no message came
abbrev pub error_stop : {E : Type 0} → ReceiveError E → Option Stop
error_stop DispatchFailure = Some stop.Failed
error_stop NoMemory = Some stop.NoMemory
error_stop (ResponseError (Frame error) (Invalid None)) = Some (stop.Faulty error)
error_stop (ResponseError (UnexpectedEndOfStream end) (Invalid (Some bytes))) = Some (stop.CutOff bytes)
error_stop _ = None

-- why nothing is answered, or an error
abbrev pub silent_stop : {E : Type 0} → Result Silence (ReceiveError E) → Option Stop
silent_stop (Ok silence.End) = Some stop.End
silent_stop (Ok silence.NotYet) = Some stop.NotYet
silent_stop (Ok silence.OutOfTurns) = Some stop.OutOfTurns
silent_stop (Err error) = error_stop error

-- why a call of `recv` answers no message, where none came
abbrev pub recv_stop : {T E : Type 0} → Result (Received T) (ReceiveError E) → Option Stop
recv_stop (Ok (received.Event event)) = None
recv_stop (Ok received.End) = Some stop.End
recv_stop (Ok received.NotYet) = Some stop.NotYet
recv_stop (Ok received.OutOfTurns) = Some stop.OutOfTurns
recv_stop (Err error) = error_stop error

-- why a call that looks for the first message answers none, where none came
abbrev pub tried_stop : {M E : Type 0} → Result (Tried M) (ReceiveError E) → Option Stop
tried_stop (Ok tried.End) = Some stop.End
tried_stop (Ok tried.NotYet) = Some stop.NotYet
tried_stop (Ok tried.OutOfTurns) = Some stop.OutOfTurns
tried_stop (Ok _) = None
tried_stop (Err error) = error_stop error

-- after each fault but a preprocessor's nothing more is read
abbrev pub ends_reading : ResponseFault → Bool
ends_reading (Preprocessor error) = false
ends_reading _ = true

-- nor after an error that the service sent
abbrev pub terminates : {A E : Type 0} → Result A (ReceiveError E) → Bool
terminates (Err (ServiceError error raw)) = true
terminates (Err (ResponseError refusal raw)) = ends_reading refusal
terminates _ = false

-- a fault that a receiver answers isn't `NoMemory`
abbrev pub NamesWantOfMemory : {A E : Type 0} → Result A (ReceiveError E) → Type 0
NamesWantOfMemory (Err (ResponseError refusal raw)) = is_want refusal ≡ false
NamesWantOfMemory result = Unit {0}

-- the bytes at hand hold no message for this reason
abbrev pub StopsAt : Stop → List ℕ → Type 0
StopsAt stop.End bytes = bytes ≡ []
StopsAt (stop.Faulty error) bytes = first_of bytes ≡ fault (error_kind error)
StopsAt (stop.CutOff left) bytes = first_of bytes ≡ leftover left
StopsAt stop.NoMemory bytes = Unit {0}
StopsAt _ bytes = IsUnfinished (first_of bytes)

-- the bytes at hand hold no message, and stay; or a message of which this is said comes first, and is taken
abbrev pub Finds : Option Stop → (Parts → Type 0) → List ℕ → List ℕ → Type 0
Finds (Some why) said bytes left = StopsAt why bytes × (left ≡ bytes)
Finds None said bytes left = (message : Parts) × said message × (first_of bytes ≡ begins message left)

-- a call gives up exactly where it took so many frames without data
abbrev pub TakesTurns : Option Stop → ℕ → Type 0
TakesTurns (Some stop.OutOfTurns) count = count ≡ most_idle
TakesTurns why count = count < most_idle

-- the source gave cause for this answer
abbrev pub IsCause : {F : Type 0} → FrameSource.Ghosts F → Option Stop → F → F → Type 0
IsCause source (Some stop.NotYet) before now = RoseOrStands (source.waits before) (source.waits now)
IsCause source (Some stop.Failed) before now = RoseOrStands (source.faults before) (source.faults now)
IsCause source (Some stop.End) before now = IsDrained (source.left now)
IsCause source (Some (stop.CutOff left)) before now = IsDrained (source.left now)
IsCause source why before now = Unit {0}

-- ## What is still to be read

-- what a receiver has still to read: nothing once it was terminated, some bytes, or those of a source that doesn't say
pub data Rest : Type 0 where
  -- nothing more is read
  terminated : Rest
  -- the source doesn't say what it has left
  untold : Rest
  -- these bytes are still to be read
  unread : List ℕ → Rest

-- the bytes that were taken, and then the data of the frames that are left
abbrev pub rest_after : List ℕ → Option (List FramePart) → Rest
rest_after taken None = untold
rest_after taken (Some frames) = unread (taken ++ frames_data frames)

-- the rest has no message, and ends so
abbrev pub EndsAs : Rest → First → Type 0
EndsAs terminated end = ⊥
EndsAs untold end = Unit {0}
EndsAs (unread bytes) end = reading bytes ≡ record { messages = []; end = end }

-- no byte is still to be read
abbrev pub IsReadOut : Rest → Type 0
IsReadOut (unread bytes) = bytes ≡ []
IsReadOut rest = Unit {0}

-- the rest begins with a message, and this follows its frame
abbrev pub Begins : Rest → Parts → Rest → Type 0
Begins terminated message after = ⊥
Begins untold message after = after ≡ untold
Begins (unread bytes) message (unread others) = first_of bytes ≡ begins message others
Begins (unread bytes) message after = ⊥

-- the rest holds no message for this reason
abbrev pub CutsAt : Stop → Rest → Type 0
CutsAt stop.End rest = IsReadOut rest
CutsAt (stop.Faulty error) rest = EndsAs rest (fault (error_kind error))
CutsAt (stop.CutOff left) rest = EndsAs rest (leftover left)
CutsAt why rest = Unit {0}

-- the rest holds no message, and stays; or a message of which this is said comes first, and is taken; or the receiver is terminated
abbrev pub Cuts : Option Stop → Bool → (Parts → Type 0) → Rest → Rest → Type 0
Cuts (Some why) ends said before now = CutsAt why before × (now ≡ if ends then terminated else before)
Cuts None ends said before now = (message : Parts) × said message × (after : Rest) × Begins before message after × (now ≡ if ends then terminated else after)

-- ## What is answered of a message

-- what the unmarshaller made of a message is the answer
abbrev pub Unmarshals : {U T E : Type 0} → UnmarshallMessage.Ghosts U T E → U → Parts → Result (Received T) (ReceiveError E) → Type 0
Unmarshals unmarshaller by message (Ok (received.Event event)) = unmarshaller.answers by message (Ok (made.Event event))
Unmarshals unmarshaller by message (Err (ServiceError error (Decoded raw))) = unmarshaller.answers by message (Ok (made.Error error)) × (raw ≡ message)
Unmarshals unmarshaller by message (Err (ResponseError (Unmarshall error) (Decoded raw))) = unmarshaller.answers by message (Err error) × (raw ≡ message)
Unmarshals unmarshaller by message _ = ⊥

-- an unmarshaller that takes messages as they are
abbrev pub PassesMessages : {U : Type 0} → UnmarshallMessage.Ghosts U Parts Error → Type 0
PassesMessages {U = U} unmarshaller =
    (by : U) (message : Parts) (answer : Result (UnmarshalledMessage Parts Error) Error) → unmarshaller.answers by message answer → PassesMessage message answer

-- an answer of which this is said for the message, with the message that is then kept; or the message, given back
abbrev pub Makes : {A E : Type 0} → (Parts → Result A (ReceiveError E) → Type 0) → (Parts → Result A (ReceiveError E) → Option Parts) → Parts → Made A E → Type 0
Makes said keeps message (Answer answer kept) = said message answer × (kept ≡ keeps message answer)
Makes said keeps message (Back back) = back ≡ message

-- a fault that was made of a message isn't `NoMemory`
abbrev pub NamesMadeWant : {A E : Type 0} → Made A E → Type 0
NamesMadeWant (Answer answer kept) = NamesWantOfMemory answer
NamesMadeWant (Back message) = Unit {0}

-- a preprocessor that leaves messages as they are, and makes nothing along with them
abbrev pub LeavesMessage : Parts → Result (Parts × Unit {0}) Error → Type 0
LeavesMessage message answer = answer ≡ Ok (message, tt)

-- what is answered of a first message by what the preprocessor answered for it
abbrev pub TriesMessage : {M E : Type 0} → (Parts → Result (Parts × M) Error → Type 0) → InitialMessageType → Parts → Result (Tried M) (ReceiveError E) → Type 0
TriesMessage answers kind message (Ok (tried.Initial first beside)) = answers message (Ok (first, beside)) × (is_initial kind first ≡ true)
TriesMessage {M = M} answers kind message (Ok tried.Other) = (found : Parts × M) × answers message (Ok found) × (is_initial kind found.0 ≡ false)
TriesMessage answers kind message (Err (ResponseError (Preprocessor error) (Invalid None))) = answers message (Err error)
TriesMessage answers kind message result = ⊥

-- a message is kept that doesn't begin the stream
abbrev pub kept_by : {M E : Type 0} → Parts → Result (Tried M) (ReceiveError E) → Option Parts
kept_by message (Ok tried.Other) = Some message
kept_by message result = None

-- what is answered of a first message, and what is kept
abbrev pub Tries : {M E : Type 0} → (Parts → Result (Parts × M) Error → Type 0) → InitialMessageType → Parts → Option Parts → Result (Tried M) (ReceiveError E) → Type 0
Tries answers kind message kept result = TriesMessage answers kind message result × (kept ≡ kept_by message result)

-- ## A receiver

module _ {F U : Type 0} where
  -- the source of a receiver's frames
  abbrev pub frames_of : Receiver F U → F
  frames_of receiver = receiver.source

  -- the unmarshaller of a receiver
  abbrev pub unmarshaller_of : Receiver F U → U
  unmarshaller_of receiver = receiver.unmarshaller

  -- the bytes that a receiver has taken of its source, and of which no message was answered yet
  abbrev pub taken_bytes : Receiver F U → List ℕ
  taken_bytes receiver = receiver.buffer.bytes

  -- the message that a receiver keeps
  abbrev pub kept_message : Receiver F U → Option Parts
  kept_message receiver = receiver.kept

  -- whether a receiver reads nothing more
  abbrev pub is_terminated : Receiver F U → Bool
  is_terminated receiver = receiver.over

  -- a receiver that has taken nothing
  pub record IsNew (unmarshaller : U) (source : F) (receiver : Receiver F U) : Type 0 where
    pub reads_by : receiver.unmarshaller ≡ unmarshaller
    pub reads_from : receiver.source ≡ source
    pub nothing_taken : taken_bytes receiver ≡ []
    pub nothing_kept : kept_message receiver ≡ None
    pub goes_on : is_terminated receiver ≡ false

  -- nothing is taken
  pub record TakesNothing (old new : Receiver F U) : Type 0 where
    pub source_stays : frames_of new ≡ frames_of old
    pub bytes_stay : taken_bytes new ≡ taken_bytes old

  module _ (source : FrameSource.Ghosts F) where
    -- what a receiver has still to read
    abbrev pub rest_of : Receiver F U → Rest
    rest_of receiver = if is_terminated receiver then terminated else rest_after (taken_bytes receiver) (source.left (frames_of receiver))

    -- the unmarshaller stays, and the counts of waits and of faults don't fall
    pub record KeepsOthers (old new : Receiver F U) : Type 0 where
      pub unmarshaller_stays : unmarshaller_of new ≡ unmarshaller_of old
      pub waits : source.waits (frames_of old) ≤ source.waits (frames_of new)
      pub faults : source.faults (frames_of old) ≤ source.faults (frames_of new)

    -- a call takes these frames of the source, and finds a message in the bytes that were taken before and their data, or why there is none
    pub record Reads (why : Option Stop) (said : Parts → Type 0) (old new : Receiver F U) : Type 0 where
      pub frames : List FramePart
      pub taken : TakesFrames frames (source.left (frames_of old)) (source.left (frames_of new))
      pub found : Finds why said (taken_bytes old ++ frames_data frames) (taken_bytes new)
      pub cause : IsCause source why (frames_of old) (frames_of new)
      pub turns : TakesTurns why (idle_count frames)

  -- what the unmarshaller made of the kept message is the answer; where memory runs out the message stays
  abbrev pub ReceivesKept : {T E : Type 0} → UnmarshallMessage.Ghosts U T E → Parts → Receiver F U → Receiver F U → Result (Received T) (ReceiveError E) → Type 0
  ReceivesKept unmarshaller message old new result =
      TakesNothing old new
      × ((Unmarshals unmarshaller (unmarshaller_of old) message result × (kept_message new ≡ None)) ⊎ ((result ≡ Err NoMemory) × (kept_message new ≡ Some message)))

  -- what a call of `recv` answers, where this message is kept, and where the receiver was terminated: the kept message comes first
  abbrev pub Receives : {T E : Type 0} → FrameSource.Ghosts F → UnmarshallMessage.Ghosts U T E → Option Parts → Bool → Receiver F U → Receiver F U
      → Result (Received T) (ReceiveError E) → Type 0
  Receives source unmarshaller (Some message) over old new result = ReceivesKept unmarshaller message old new result
  Receives source unmarshaller None true old new result = (result ≡ Ok received.End) × (new ≡ old)
  Receives source unmarshaller None false old new result =
      Reads source (recv_stop result) (λ message. Unmarshals unmarshaller (unmarshaller_of old) message result) old new × (kept_message new ≡ None)

  -- what is answered of the kept message; where memory runs out it stays
  abbrev pub TriesKept : {M E : Type 0} → (Parts → Result (Parts × M) Error → Type 0) → InitialMessageType → Parts → Receiver F U → Receiver F U
      → Result (Tried M) (ReceiveError E) → Type 0
  TriesKept answers kind message old new result =
      TakesNothing old new × (Tries answers kind message (kept_message new) result ⊎ ((result ≡ Err NoMemory) × (kept_message new ≡ Some message)))

  -- nothing is kept where no message came
  abbrev pub KeepsNone : Option Stop → Receiver F U → Type 0
  KeepsNone (Some why) receiver = kept_message receiver ≡ None
  KeepsNone None receiver = Unit {0}

  -- what a call answers that looks for the first message, where this message is kept, and where the receiver was terminated
  abbrev pub TriesFirst : {M E : Type 0} → FrameSource.Ghosts F → (Parts → Result (Parts × M) Error → Type 0) → InitialMessageType → Option Parts → Bool
      → Receiver F U → Receiver F U → Result (Tried M) (ReceiveError E) → Type 0
  TriesFirst source answers kind (Some message) over old new result = TriesKept answers kind message old new result
  TriesFirst source answers kind None true old new result = (result ≡ Ok tried.End) × (new ≡ old)
  TriesFirst source answers kind None false old new result =
      Reads source (tried_stop result) (λ message. Tries answers kind message (kept_message new) result) old new × KeepsNone (tried_stop result) new

-- a message is at the front of the bytes, or there is none for this reason, of which `NoMemory` is told as such
abbrev pub FindsFront : List ℕ → Result Front Stop → Type 0
FindsFront bytes (Ok front) = (front.len ≤ length bytes) × (first_of bytes ≡ begins front.message (drop front.len bytes))
FindsFront bytes (Err why) = StopsAt why bytes × NamesStopWant why

-- no frame comes after these bytes for this reason
abbrev pub LacksFrame : List ℕ → Stop → Type 0
LacksFrame bytes stop.End = bytes ≡ []
LacksFrame bytes (stop.CutOff left) = (left ≡ bytes) × (0 < length bytes)
LacksFrame bytes stop.OutOfTurns = ⊥
LacksFrame bytes (stop.Faulty error) = ⊥
LacksFrame bytes why = Unit {0}

-- why there is no message, where one wasn't found
abbrev pub front_stop : Result Front Stop → Option Stop
front_stop (Ok front) = None
front_stop (Err why) = Some why

module _ {F U : Type 0} (source : FrameSource.Ghosts F) where
  -- these frames of the source are taken, and their data comes behind the other bytes
  pub record Pulls (frames : List FramePart) (old new : Receiver F U) : Type 0 where
    pub taken : TakesFrames frames (source.left (frames_of old)) (source.left (frames_of new))
    pub bytes : taken_bytes new ≡ taken_bytes old ++ frames_data frames
    pub waits : source.waits (frames_of old) ≤ source.waits (frames_of new)
    pub faults : source.faults (frames_of old) ≤ source.faults (frames_of new)
    pub others_stay : new ≡ record old { source = frames_of new; buffer = new.buffer }

  -- a frame is taken, and it is told whether it counts as one without data; or none is taken for a reason
  abbrev pub PullsOne : Receiver F U → Receiver F U → Result ℕ Stop → Type 0
  PullsOne old new (Ok idle) = (frame : FramePart) × Pulls (frame ∷ []) old new × (idle ≡ one_if_idle frame)
  PullsOne old new (Err why) = Pulls [] old new × LacksFrame (taken_bytes new) why × IsCause source (Some why) (frames_of old) (frames_of new)

  -- frames are taken until a message is at the front, or there is none for a reason
  pub record PullsFront (old new : Receiver F U) (result : Result Front Stop) : Type 0 where
    pub frames : List FramePart
    pub pulls : Pulls frames old new
    pub found : FindsFront (taken_bytes new) result
    pub cause : IsCause source (front_stop result) (frames_of old) (frames_of new)
    pub turns : TakesTurns (front_stop result) (idle_count frames)

-- ## A step of receiving

-- the bytes have the frame of a message that wasn't kept
abbrev pub HoldsFrame : Option ℕ → List ℕ → Type 0
HoldsFrame None bytes = Unit {0}
HoldsFrame (Some len) bytes = len ≤ length bytes

-- what follows the frame of a message that wasn't kept
abbrev pub after_frame : Option ℕ → List ℕ → List ℕ
after_frame None bytes = bytes
after_frame (Some len) bytes = drop len bytes

module _ {F U : Type 0} where
  -- the message that comes next: the kept one, which is kept no more, or the first of the stream, which stays; or why there is none
  abbrev pub Comes : FrameSource.Ghosts F → Option Parts → Bool → Receiver F U → Receiver F U → Result Coming Stop → Type 0
  Comes source (Some message) over old new (Ok coming) = (coming.message ≡ message) × (coming.len ≡ None) × (new ≡ record old { kept = None })
  Comes source (Some message) over old new (Err why) = ⊥
  Comes source None true old new (Ok coming) = ⊥
  Comes source None true old new (Err why) = (why ≡ stop.End) × (new ≡ old)
  Comes source None false old new (Ok coming) =
      (len : ℕ) × (coming.len ≡ Some len) × PullsFront source old new (Ok (record { message = coming.message; len = len }))
  Comes source None false old new (Err why) = PullsFront source old new (Err why)

  -- a receiver to which a message came back that was kept before; any other is still in the buffer
  abbrev pub put_back : Option ℕ → Parts → Receiver F U → Receiver F U
  put_back None message receiver = record receiver { kept = Some message }
  put_back (Some len) message receiver = receiver

  -- what was made of the message is answered, which is taken and kept where it is to be; where memory ran out it is where it was
  abbrev pub Settles : {A E : Type 0} → Option ℕ → Made A E → Receiver F U → Receiver F U → Result A (ReceiveError E) → Type 0
  Settles len (Answer answer kept) old new result =
      (result ≡ answer) × (new ≡ record old { buffer = new.buffer; kept = kept }) × (taken_bytes new ≡ after_frame len (taken_bytes old))
  Settles len (Back message) old new result = (result ≡ Err NoMemory) × (new ≡ put_back len message old)
