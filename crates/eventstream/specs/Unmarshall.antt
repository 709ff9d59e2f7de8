-- What is made of a message.
use Rattle.std.specs.Prelude.{◌≡◌, Result, Ok, Err}
use Rattle.smithy_core.specs.Message.{Parts}
use Rattle.eventstream.specs.Error.{error_kind}
use Rattle.eventstream.specs.declared.error.Error.{Error}
use Rattle.eventstream.specs.declared.error.ErrorKind.TheVariants.{NoMemory}
use Rattle.eventstream.specs.declared.unmarshall.UnmarshalledMessage.{UnmarshalledMessage}
use Rattle.eventstream.specs.declared.unmarshall.UnmarshalledMessage.TheVariants as made

-- a message as it is, or memory ran out; never an error of the service
abbrev pub PassesMessage : {E : Type 0} → Parts → Result (UnmarshalledMessage Parts E) Error → Type 0
PassesMessage message (Ok (made.Event event)) = event ≡ message
PassesMessage message (Ok (made.Error error)) = ⊥
PassesMessage message (Err refusal) = error_kind refusal ≡ NoMemory

-- an answer of the same kind, with a copy of what it holds
abbrev pub IsUnmarshalledCopy : {T E : Type 0} → (T → T → Type 0) → (E → E → Type 0) → UnmarshalledMessage T E → UnmarshalledMessage T E → Type 0
IsUnmarshalledCopy events errors (made.Event event) (made.Event copy) = events event copy
IsUnmarshalledCopy events errors (made.Error error) (made.Error copy) = errors error copy
IsUnmarshalledCopy events errors _ _ = ⊥
