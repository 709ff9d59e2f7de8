-- What a receiver answers, and which message begins a stream.
use Rattle.std.specs.Prelude.{◌≡◌, ℕ, Bool, false, bytes_eq, List, codes, find, option_map, Option}
use Rattle.std.specs.Option.{option_map_or}
use Rattle.smithy_core.specs.Header.{Header}
use Rattle.smithy_core.specs.HeaderValue.{string_of}
use Rattle.smithy_core.specs.Message.{Parts}
use Rattle.smithy_core.specs.declared.header.HeaderValue.{HeaderValue}
use Rattle.event_io.specs.declared.received.InitialMessageType.{InitialMessageType}
use Rattle.event_io.specs.declared.received.InitialMessageType.TheVariants.{Request, Response}
use Rattle.event_io.specs.declared.received.Received.{Received}
use Rattle.event_io.specs.declared.received.Received.TheVariants as received
use Rattle.event_io.specs.declared.received.Tried.{Tried}
use Rattle.event_io.specs.declared.received.Tried.TheVariants as tried

-- the type of event of the message that begins a stream
abbrev pub initial_text : InitialMessageType → List ℕ
initial_text Request = codes "initial-request"
initial_text Response = codes "initial-response"

-- the value of the first header of the name
abbrev pub first_named : List ℕ → List Header → Option HeaderValue
first_named name headers = option_map (λ h. h.value) (find (λ h. bytes_eq h.name name) headers)

-- whether a value is this text
abbrev pub is_text : List ℕ → HeaderValue → Bool
is_text text value = option_map_or (λ bytes. bytes_eq bytes text) (string_of value) false

-- whether a message begins a stream: its first `:event-type` is the text
abbrev pub is_initial : InitialMessageType → Parts → Bool
is_initial kind message = option_map_or (is_text (initial_text kind)) (first_named (codes ":event-type") message.headers) false

-- the same answer, with a copy of the event
abbrev pub IsReceivedCopy : {T : Type 0} → (T → T → Type 0) → Received T → Received T → Type 0
IsReceivedCopy events (received.Event event) (received.Event copy) = events event copy
IsReceivedCopy events received.End received.End = Unit {0}
IsReceivedCopy events received.NotYet received.NotYet = Unit {0}
IsReceivedCopy events received.OutOfTurns received.OutOfTurns = Unit {0}
IsReceivedCopy events _ _ = ⊥

-- the same answer, with an equal message and a copy of what was made along with it
abbrev pub IsTriedCopy : {M : Type 0} → (M → M → Type 0) → Tried M → Tried M → Type 0
IsTriedCopy made (tried.Initial message beside) (tried.Initial copy beside_copy) = (copy ≡ message) × made beside beside_copy
IsTriedCopy made tried.Other tried.Other = Unit {0}
IsTriedCopy made tried.End tried.End = Unit {0}
IsTriedCopy made tried.NotYet tried.NotYet = Unit {0}
IsTriedCopy made tried.OutOfTurns tried.OutOfTurns = Unit {0}
IsTriedCopy made _ _ = ⊥
