-- What is read of a stream that was written raw, and how it is checked.
use Rattle.std.specs.Prelude.{◌≡◌, List, map, ℕ, Ok}
use Rattle.smithy_core.specs.Message.{Parts}
use Rattle.eventstream.specs.Frame.{frame}
use Rattle.eventstream.specs.Key.{Signer}
use Rattle.eventstream.specs.Laws.{floored_message}
use Rattle.eventstream.specs.Reading.{nothing, reading}
use Rattle.event_io.specs.Laws.{Carry}
use Rattle.chain_watch.specs.Walk.{chain_events}

-- The bytes are read as messages and nothing else, whose frames are these. The payload of each but the last is the frame of its event, which is read as
-- the event with its moments in whole milliseconds; that of the last is empty.
pub record ReadsEvents (frames : List (List ℕ)) (events : List Parts) (bytes : List ℕ) : Type 0 where
  pub messages : List Parts
  pub framed : map frame messages ≡ frames
  pub carried : Carry events messages
  pub joined : reading bytes ≡ record { messages = messages; end = nothing }

-- a check over the signature of the request accepts the bytes, and answers the events with their moments in whole milliseconds
abbrev pub AcceptsEvents : Signer → List ℕ → List Parts → List ℕ → Type 0
AcceptsEvents signer seed events bytes = chain_events signer seed bytes ≡ Ok (map floored_message events)
