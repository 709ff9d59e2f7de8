-- What a call promises that takes messages until it has enough: which messages it takes, and why it takes no more.
use Rattle.std.specs.Prelude.{◌≡◌, ℕ, ◌<◌, ◌≤◌, Bool, true, false, if◌then◌else◌, List, [], ◌∷◌, ◌++◌, length, Option, Some, None, Result, Ok, Err}
use Rattle.smithy_core.specs.Message.{Parts}
use Rattle.smithy_core.specs.Outside.{RoseOrStands}
use Rattle.smithy_core.specs.declared.outside.frame_part.FramePart.{FramePart}
use Rattle.smithy_core.specs.declared.outside.frame_source.FrameSource as FrameSource
use Rattle.smithy_core.specs.declared.raw_message.RawMessage.TheVariants.{Invalid}
use Rattle.smithy_core.specs.declared.sdk_error.SdkError.TheVariants.{DispatchFailure, NoMemory, ResponseError}
use Rattle.eventstream.specs.Decode.{IsUnfinished}
use Rattle.eventstream.specs.Error.{error_kind}
use Rattle.eventstream.specs.Reading.{Begin, fault, first_of, leftover, nothing, reading}
use Rattle.eventstream.specs.declared.error.Error.{Error}
use Rattle.event_io.specs.Frames.{TakesFrames, frames_data, idle_count, most_idle}
use Rattle.event_io.specs.Receiver.{EndsAs, IsReadOut, Rest, StopsAt, frames_of, is_terminated, rest_of, taken_bytes, terminated, terminates, unread, untold}
use Rattle.event_io.specs.ResponseFault.{ReceiveError}
use Rattle.event_io.specs.declared.drain.Drained.{Drained}
use Rattle.event_io.specs.declared.drain.Drained.TheVariants as drained
use Rattle.event_io.specs.declared.received.Received.{Received}
use Rattle.event_io.specs.declared.received.Received.TheVariants as received
use Rattle.event_io.specs.declared.receiver.Receiver.{Receiver}
use Rattle.event_io.specs.declared.response_fault.ResponseFault.TheVariants.{Frame, UnexpectedEndOfStream}
use Rattle.event_io.specs.declared.stop.Stop.{Stop}
use Rattle.event_io.specs.declared.stop.Stop.TheVariants as stop

-- the rest begins with these messages, one after another, and this is the rest after them
abbrev pub BeginsWith : Rest → List Parts → Rest → Type 0
BeginsWith terminated messages after = (messages ≡ []) × (after ≡ terminated)
BeginsWith untold messages after = after ≡ untold
BeginsWith (unread bytes) messages (unread others) = Begin messages bytes others
BeginsWith (unread bytes) messages after = ⊥

-- the rest is these messages and nothing else
abbrev pub HoldsOnly : Rest → List Parts → Type 0
HoldsOnly (unread bytes) messages = reading bytes ≡ record { messages = messages; end = nothing }
HoldsOnly rest messages = Unit {0}

-- there are enough exactly where as many were taken as were asked for
abbrev pub Counts : ℕ → ℕ → Result Drained (ReceiveError Error) → Type 0
Counts most count (Ok drained.Enough) = count ≡ most
Counts most count result = count < most

-- whether an answer is why no message was taken
abbrev pub stops : Result Drained (ReceiveError Error) → Bool
stops (Ok drained.Enough) = false
stops result = true

-- why no more messages were taken, where there weren't enough
abbrev pub drain_stop : Result Drained (ReceiveError Error) → Option Stop
drain_stop (Ok drained.End) = Some stop.End
drain_stop (Ok drained.NotYet) = Some stop.NotYet
drain_stop (Ok drained.OutOfTurns) = Some stop.OutOfTurns
drain_stop (Err DispatchFailure) = Some stop.Failed
drain_stop (Err NoMemory) = Some stop.NoMemory
drain_stop (Err (ResponseError (Frame error) (Invalid None))) = Some (stop.Faulty error)
drain_stop (Err (ResponseError (UnexpectedEndOfStream end) (Invalid (Some bytes)))) = Some (stop.CutOff bytes)
drain_stop _ = None

-- the bytes at hand hold no message for this reason, where there is one
abbrev pub HoldsNoneFor : Option Stop → List ℕ → Type 0
HoldsNoneFor (Some why) bytes = StopsAt why bytes
HoldsNoneFor None bytes = Unit {0}

-- an answer where nothing more is read: the end, or enough where none were asked for, or memory ran out
abbrev pub IsPastEnd : Result Drained (ReceiveError Error) → Type 0
IsPastEnd (Ok drained.End) = Unit {0}
IsPastEnd (Ok drained.Enough) = Unit {0}
IsPastEnd (Err NoMemory) = Unit {0}
IsPastEnd result = ⊥

-- the messages that an answer of `recv` brings
abbrev pub messages_in : Result (Received Parts) (ReceiveError Error) → List Parts
messages_in (Ok (received.Event message)) = message ∷ []
messages_in answer = []

-- an answer of `recv` as that of a call that takes one message at most
abbrev pub drained_by : Result (Received Parts) (ReceiveError Error) → Result Drained (ReceiveError Error)
drained_by (Ok (received.Event message)) = Ok drained.Enough
drained_by (Ok received.End) = Ok drained.End
drained_by (Ok received.NotYet) = Ok drained.NotYet
drained_by (Ok received.OutOfTurns) = Ok drained.OutOfTurns
drained_by (Err error) = Err error

module _ {F U : Type 0} (source : FrameSource.Ghosts F) where
  -- the cause of an answer, where this is the rest after the messages that were taken, and so many frames without data were
  abbrev pub IsCauseToStop : Rest → ℕ → Receiver F U → Receiver F U → Result Drained (ReceiveError Error) → Type 0
  IsCauseToStop after idle old new (Ok drained.Enough) = Unit {0}
  IsCauseToStop after idle old new (Ok drained.End) = IsReadOut after
  IsCauseToStop after idle old new (Ok drained.NotYet) =
      RoseOrStands (source.waits (frames_of old)) (source.waits (frames_of new)) × IsUnfinished (first_of (taken_bytes new))
  IsCauseToStop after idle old new (Ok drained.OutOfTurns) = most_idle ≤ idle
  IsCauseToStop after idle old new (Err DispatchFailure) =
      RoseOrStands (source.faults (frames_of old)) (source.faults (frames_of new)) × IsUnfinished (first_of (taken_bytes new))
  IsCauseToStop after idle old new (Err NoMemory) = Unit {0}
  IsCauseToStop after idle old new (Err (ResponseError (Frame error) (Invalid None))) = EndsAs after (fault (error_kind error))
  IsCauseToStop after idle old new (Err (ResponseError (UnexpectedEndOfStream end) (Invalid (Some bytes)))) = EndsAs after (leftover bytes)
  IsCauseToStop after idle old new result = ⊥

  -- a call that is to take at most so many messages takes these frames of the source, and puts the messages behind those that it was given:
  -- those that the bytes at hand and the data of the frames begin with, also where the source doesn't tell what it has left
  pub record ReceivesAll (most : ℕ) (old new : Receiver F U) (given gained : List Parts) (result : Result Drained (ReceiveError Error)) : Type 0 where
    pub frames : List FramePart
    pub taken : TakesFrames frames (source.left (frames_of old)) (source.left (frames_of new))
    pub messages : List Parts
    pub appended : gained ≡ given ++ messages
    pub read : Begin messages (taken_bytes old ++ frames_data frames) (taken_bytes new)
    pub stopped : is_terminated old ≡ false → HoldsNoneFor (drain_stop result) (taken_bytes new)
    pub counted : Counts most (length messages) result
    pub after : Rest
    pub first : BeginsWith (rest_of source old) messages after
    pub cause : IsCauseToStop after (idle_count frames) old new result
    pub left : rest_of source new ≡ if terminates result then terminated else after
    pub all : result ≡ Ok drained.End → HoldsOnly (rest_of source old) messages
    pub ended : is_terminated old ≡ true → (new ≡ old) × IsPastEnd result
