-- What receiving the messages of a stream promises, in the words of `eventstream/specs/Reading.antt`.
use Rattle.std.specs.Prelude.{◌≡◌, ◌⊎◌, ◌+◌, ◌≤◌, ◌^◌, ℕ, Bool, true, false, if◌then◌else◌, List, [], ◌++◌, codes, length, Option, Some, None, Result, Ok, Err}
use Rattle.std.specs.Fmt.{decimal}
use Rattle.smithy_core.specs.Message.{Parts}
use Rattle.eventstream.specs.Decode.{IsUnfinished}
use Rattle.eventstream.specs.Error.{error_kind}
use Rattle.eventstream.specs.Reading.{begins, fault, first_of}
use Rattle.eventstream.specs.declared.error.Error.{Error}
use Rattle.eventstream.specs.declared.error.ErrorKind.TheVariants as kinds
use Rattle.aws_signing.specs.SigningFaults.{of_encoding}
use Rattle.aws_signing.specs.declared.fault.AwsSigningError.{AwsSigningError}
use Rattle.aws_signing.specs.declared.fault.AwsSigningError.TheVariants.{CutOff, NoMemory, StreamTooLong}

-- the piece comes behind the bytes at hand; or these would be too many, or memory ran out, and nothing changes
abbrev pub FeedsReceived : List ℕ → List ℕ → List ℕ → Result (Unit {0}) AwsSigningError → Type 0
FeedsReceived old piece new (Ok _) = new ≡ old ++ piece
FeedsReceived old piece new (Err error) =
    (((2 ^ 64 ≤ length old + length piece) × (error ≡ StreamTooLong)) ⊎ (error ≡ NoMemory)) × (new ≡ old)

-- the message that the bytes begin with is taken; or less than a frame is there, or no frame, or memory ran out, and nothing changes
abbrev pub TakesMessageFront : List ℕ → List ℕ → Result (Option Parts) Error → Type 0
TakesMessageFront old new (Ok (Some message)) = first_of old ≡ begins message new
TakesMessageFront old new (Ok None) = IsUnfinished (first_of old) × (new ≡ old)
TakesMessageFront old new (Err error) = ((first_of old ≡ fault (error_kind error)) ⊎ (error_kind error ≡ kinds.NoMemory)) × (new ≡ old)

-- the next message is taken, or why there is none, as a fault of this crate
abbrev pub GivesNextMessage : List ℕ → List ℕ → Result (Option Parts) AwsSigningError → Type 0
GivesNextMessage old new (Ok message) = TakesMessageFront old new (Ok message)
GivesNextMessage old new (Err told) = (error : Error) × TakesMessageFront old new (Err error) × (told ≡ of_encoding error)

-- no byte is left over, or some are
abbrev pub EndsReceived : List ℕ → Result (Unit {0}) AwsSigningError → Type 0
EndsReceived bytes (Ok _) = bytes ≡ []
EndsReceived bytes (Err error) = (bytes ≡ [] → ⊥) × (error ≡ CutOff)

-- ## One message after another

-- the bytes whose messages weren't answered, and whether no more are
pub record MessagesLeft : Type 0 where
  pub bytes : List ℕ
  pub is_over : Bool

-- the messages of bytes, none of which was answered
abbrev pub messages_of_bytes : List ℕ → MessagesLeft
messages_of_bytes bytes = record { bytes = bytes; is_over = false }

-- the bytes are too many, or memory ran out
abbrev pub RefusesBytes : List ℕ → AwsSigningError → Type 0
RefusesBytes bytes error = ((2 ^ 64 ≤ length bytes) × (error ≡ StreamTooLong)) ⊎ (error ≡ NoMemory)

-- why bytes that are left begin with no message: they end within a frame, they are no frame, or memory ran out
abbrev pub HasNoMessage : List ℕ → AwsSigningError → Type 0
HasNoMessage bytes told =
    (IsUnfinished (first_of bytes) × (bytes ≡ [] → ⊥) × (told ≡ CutOff))
    ⊎ ((error : Error) × ((first_of bytes ≡ fault (error_kind error)) ⊎ (error_kind error ≡ kinds.NoMemory)) × (told ≡ of_encoding error))

-- the message that the bytes begin with; or why there is none, and then it is over, as it is once no bytes are left
abbrev pub YieldsMessage : MessagesLeft → Option (Result Parts AwsSigningError) → MessagesLeft → Type 0
YieldsMessage old (Some (Ok message)) new = (old.is_over ≡ false) × (first_of old.bytes ≡ begins message new.bytes) × (new.is_over ≡ false)
YieldsMessage old (Some (Err told)) new = (old.is_over ≡ false) × HasNoMessage old.bytes told × (new ≡ record old { is_over = true })
YieldsMessage old None new = ((old.is_over ≡ true) ⊎ (old.bytes ≡ [])) × (new ≡ record old { is_over = true })

-- so many answers come at most: a message takes a byte at least
abbrev pub most_answers : MessagesLeft → ℕ
most_answers left = length left.bytes + (if left.is_over then 0 else 1)

-- an answer before it is over
abbrev pub AnswersMessage : List ℕ → List ℕ → Option (Result Parts AwsSigningError) → Type 0
AnswersMessage old new (Some (Ok message)) = first_of old ≡ begins message new
AnswersMessage old new (Some (Err told)) = HasNoMessage old told × (new ≡ old)
AnswersMessage old new None = (old ≡ []) × (new ≡ old)

-- what is printed: how many bytes are at hand, and none of them
abbrev pub shown_received : List ℕ → List ℕ
shown_received bytes = codes "ReceivedEvents(" ++ (decimal (length bytes) ++ codes " bytes)")
