-- What is read of a chain of signed messages, as AWS Signature Version 4 has it, and what the calls of a receiver tell of a stream.
use Rattle.std.specs.Prelude.{◌≡◌, ℕ, if◌then◌else◌, List, [], ◌∷◌, ◌++◌, length, map, flat_map, Option, Some, None, Result, Ok}
use Rattle.std.specs.List.{concat}
use Rattle.smithy_core.specs.Message.{Parts}
use Rattle.smithy_core.specs.Moment.{Instant}
use Rattle.smithy_core.specs.declared.outside.frame_part.FramePart.{FramePart}
use Rattle.smithy_core.specs.declared.outside.frame_source.FrameSource as FrameSource
use Rattle.eventstream.specs.Error.{error_kind}
use Rattle.eventstream.specs.Frame.{frame, unframed}
use Rattle.eventstream.specs.Key.{Signer}
use Rattle.eventstream.specs.Laws.{floored_message}
use Rattle.eventstream.specs.Link.{chain, link_message, link_signature}
use Rattle.eventstream.specs.Read.{read}
use Rattle.eventstream.specs.Reading.{Begin, First, Read, fault, leftover, nothing, reading}
use Rattle.eventstream.specs.declared.error.Error.{Error}
use Rattle.event_io.specs.Drain.{ReceivesAll, drain_stop}
use Rattle.event_io.specs.Frames.{TakesFrames, frames_data}
use Rattle.event_io.specs.Receiver.{frames_of, taken_bytes, terminates}
use Rattle.event_io.specs.ResponseFault.{ReceiveError}
use Rattle.event_io.specs.declared.drain.Drained.{Drained}
use Rattle.event_io.specs.declared.receiver.Receiver.{Receiver}
use Rattle.event_io.specs.declared.stop.Stop.{Stop}
use Rattle.event_io.specs.declared.stop.Stop.TheVariants as stop

-- ## A chain

-- there is one moment more than events, and each event and each signed message has a frame
abbrev pub IsChained : Signer → List Parts → List Instant → List ℕ → Type 0
IsChained signer [] [] signature = ⊥
IsChained signer [] (t ∷ []) signature = unframed (link_message signer signature [] t) ≡ None
IsChained signer [] (t ∷ u ∷ ts) signature = ⊥
IsChained signer (event ∷ events) [] signature = ⊥
IsChained signer (event ∷ events) (t ∷ ts) signature =
    (unframed event ≡ None) × (unframed (link_message signer signature (frame event) t) ≡ None)
    × IsChained signer events ts (link_signature signer signature (frame event) t)

-- the payload of each message but the last is the frame of its event, and is read as the event with its moments in whole
-- milliseconds; that of the last is empty
abbrev pub Carry : List Parts → List Parts → Type 0
Carry [] [] = ⊥
Carry [] (last ∷ []) = last.payload ≡ []
Carry [] (last ∷ more ∷ messages) = ⊥
Carry (event ∷ events) [] = ⊥
Carry (event ∷ events) (message ∷ messages) =
    (message.payload ≡ frame event) × (read message.payload ≡ Ok (floored_message event, length message.payload)) × Carry events messages

-- the frames of a chain are those of messages that carry the events, and joined they are read as these messages and nothing else
pub record ReadsChain (signer : Signer) (events : List Parts) (moments : List Instant) (signature : List ℕ) : Type 0 where
  pub messages : List Parts
  pub frames : map frame messages ≡ chain signer events moments signature
  pub carried : Carry events messages
  pub joined : reading (concat (chain signer events moments signature)) ≡ record { messages = messages; end = nothing }

-- ## Calls of a receiver

-- what a call of a receiver answers: the messages that it took, and why it took no more
pub record Call : Type 0 where
  pub messages : List Parts
  pub result : Result Drained (ReceiveError Error)

-- where this is told no message is left, and the stream ends so
abbrev pub EndsReading : Option Stop → List Parts → First → Type 0
EndsReading (Some stop.End) others end = (others ≡ []) × (end ≡ nothing)
EndsReading (Some (stop.Faulty error)) others end = (others ≡ []) × (end ≡ fault (error_kind error))
EndsReading (Some (stop.CutOff left)) others end = (others ≡ []) × (end ≡ leftover left)
EndsReading why others end = Unit {0}

-- the calls answer the messages of a reading in order, and its one fault; after the fault they answer as those of an empty stream
abbrev pub Tell : List Call → Read → Type 0
Tell [] read = Unit {0}
Tell (call ∷ calls) read =
    (others : List Parts) × (read.messages ≡ call.messages ++ others) × EndsReading (drain_stop call.result) others read.end
    × Tell calls (record { messages = others; end = if terminates call.result then nothing else read.end })

-- the messages that the calls answer
abbrev pub messages_of : List Call → List Parts
messages_of calls = flat_map (λ call. call.messages) calls

module _ {F U : Type 0} (source : FrameSource.Ghosts F) where
  -- a call takes messages
  abbrev pub TakesMessages : Receiver F U → Call → Receiver F U → Type 0
  TakesMessages old call new = (most : ℕ) × (given : List Parts) × ReceivesAll source most old new given (given ++ call.messages) call.result

  -- calls take messages, one after another
  abbrev pub TakeEach : Receiver F U → List Call → Receiver F U → Type 0
  TakeEach old [] new = new ≡ old
  TakeEach old (call ∷ calls) new = (between : Receiver F U) × TakesMessages old call between × TakeEach between calls new

  -- the bytes at hand, and the data of the frames that were taken, begin with these messages
  abbrev pub HoldFirst : Receiver F U → List Parts → Receiver F U → Type 0
  HoldFirst old messages new =
      (frames : List FramePart) × TakesFrames frames (source.left (frames_of old)) (source.left (frames_of new))
      × Begin messages (taken_bytes old ++ frames_data frames) (taken_bytes new)
