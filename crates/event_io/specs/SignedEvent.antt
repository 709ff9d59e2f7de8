-- Events in the signed messages of a stream (AWS Signature Version 4 for event streams): each has the frame of a message as its
-- payload and its moment in the header `:date`, and the last has no payload.
use Rattle.std.specs.Prelude.{◌≡◌, ◌⊎◌, ℕ, List, [], ◌∷◌, codes, drop, Option, Some, None, Result, Ok, Err}
use Rattle.std.specs.Option.{option_or}
use Rattle.smithy_core.specs.Header.{Header}
use Rattle.smithy_core.specs.Message.{Parts}
use Rattle.smithy_core.specs.Moment.{Instant}
use Rattle.eventstream.specs.Error.{error_kind}
use Rattle.eventstream.specs.Read.{announced, read}
use Rattle.eventstream.specs.Texts.{Tells}
use Rattle.eventstream.specs.declared.error.Error.{Error as Refusal}
use Rattle.eventstream.specs.declared.error.ErrorKind.TheVariants.{NoMemory}
use Rattle.eventstream.specs.declared.unmarshall.UnmarshalledMessage.{UnmarshalledMessage}
use Rattle.eventstream.specs.declared.unmarshall.UnmarshalledMessage.TheVariants as made
use Rattle.eventstream.specs.Link.{carried_date}
use Rattle.event_io.specs.declared.signed_event.SignedEvent.{SignedEvent}
use Rattle.event_io.specs.declared.signed_event.SignedEvent.TheVariants as signed

-- the moment of the first header `:date` that holds one
abbrev pub signed_date : List Header → Option Instant
signed_date [] = None
signed_date (header ∷ headers) = option_or (carried_date header) (signed_date headers)

-- what is said of a message without such a header
abbrev pub no_date : List ℕ
no_date = codes "expected a signed message to include the `:date` header with a timestamp"

-- what is said of a payload with bytes behind its frame
abbrev pub not_one_frame : List ℕ
not_one_frame = codes "expected the payload of a signed message to be one frame"

-- the payload is the frame of this message, and nothing follows it
abbrev pub HoldsMessage : List ℕ → Parts → Type 0
HoldsMessage payload message = (read payload ≡ Ok (message, announced payload)) × (drop (announced payload) payload ≡ [])

-- the payload is no frame, or bytes follow it, or memory ran out
abbrev pub HoldsNone : List ℕ → Refusal → Type 0
HoldsNone payload refusal =
    (read payload ≡ Err (error_kind refusal)) ⊎ (error_kind refusal ≡ NoMemory)
    ⊎ ((message : Parts) × (read payload ≡ Ok (message, announced payload)) × (drop (announced payload) payload ≡ [] → ⊥) × Tells not_one_frame (error_kind refusal))

-- the message that a payload holds, or why it holds none
abbrev pub TakesHeld : List ℕ → Result Parts Refusal → Type 0
TakesHeld payload (Ok message) = HoldsMessage payload message
TakesHeld payload (Err refusal) = HoldsNone payload refusal

-- an answer for the message that is held, as an answer for the one that holds it
abbrev pub dated : {T E : Type 0} → Instant → UnmarshalledMessage T E → UnmarshalledMessage (SignedEvent T) E
dated date (made.Event event) = made.Event (signed.Event event date)
dated date (made.Error error) = made.Error error

module _ {T E : Type 0} (answers : Parts → Result (UnmarshalledMessage T E) Refusal → Type 0) where
  -- an unmarshaller's answer for the message that a payload holds, or its refusal
  abbrev pub UnwrapsHeld : Instant → List ℕ → Result (UnmarshalledMessage (SignedEvent T) E) Refusal → Type 0
  UnwrapsHeld date payload (Ok answer) = (message : Parts) × (inner : UnmarshalledMessage T E) × HoldsMessage payload message × answers message (Ok inner) × (answer ≡ dated date inner)
  UnwrapsHeld date payload (Err refusal) = HoldsNone payload refusal ⊎ ((message : Parts) × HoldsMessage payload message × answers message (Err refusal))

  -- the end of the stream where there is no payload, and else what the payload holds
  abbrev pub UnwrapsPayload : Instant → List ℕ → Result (UnmarshalledMessage (SignedEvent T) E) Refusal → Type 0
  UnwrapsPayload date [] answer = answer ≡ Ok (made.Event (signed.Closing date))
  UnwrapsPayload date (byte ∷ bytes) answer = UnwrapsHeld date (byte ∷ bytes) answer

  -- a message without a moment is refused
  abbrev pub RefusesUndated : Result (UnmarshalledMessage (SignedEvent T) E) Refusal → Type 0
  RefusesUndated (Ok answer) = ⊥
  RefusesUndated (Err refusal) = Tells no_date (error_kind refusal)

  -- the answer for a payload that was signed at a moment, where there is one
  abbrev pub UnwrapsAt : Option Instant → List ℕ → Result (UnmarshalledMessage (SignedEvent T) E) Refusal → Type 0
  UnwrapsAt None payload answer = RefusesUndated answer
  UnwrapsAt (Some date) payload answer = UnwrapsPayload date payload answer

  -- the event of a signed message with its moment, or that the stream ends, or the error that the service sent, or why it is none of them
  abbrev pub Unwraps : Parts → Result (UnmarshalledMessage (SignedEvent T) E) Refusal → Type 0
  Unwraps message answer = UnwrapsAt (signed_date message.headers) message.payload answer

-- the event or the end at the same moment, with a copy of the event
abbrev pub IsSignedEventCopy : {T : Type 0} → (T → T → Type 0) → SignedEvent T → SignedEvent T → Type 0
IsSignedEventCopy events (signed.Event event date) (signed.Event copy at) = events event copy × (at ≡ date)
IsSignedEventCopy events (signed.Closing date) (signed.Closing at) = at ≡ date
IsSignedEventCopy events _ _ = ⊥
