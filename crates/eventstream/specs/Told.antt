-- What contracts see of a signer of messages, and what it answers.
use Rattle.std.specs.Prelude.{◌≡◌, ℕ, ◌⊎◌, if◌then◌else◌, List, [], Option, Some, None, Result, Ok, Err, option_map}
use Rattle.std.specs.Option.{option_or}
use Rattle.smithy_core.specs.Civil.{is_in_years}
use Rattle.smithy_core.specs.Message.{Parts}
use Rattle.smithy_core.specs.Moment.{Instant}
use Rattle.eventstream.specs.declared.error.ErrorKind.{ErrorKind}
use Rattle.eventstream.specs.declared.sign_error.SignMessageError.{SignMessageError}
use Rattle.eventstream.specs.declared.sign_error.SignMessageError.TheVariants.{FailedToEncodeMessage, MomentOutOfRange, NoMemory}
use Rattle.eventstream.specs.Error.{error_of}
use Rattle.eventstream.specs.Frame.{frame, unframed}
use Rattle.eventstream.specs.Key.{Signer}
use Rattle.eventstream.specs.Link.{link_message, link_signature}

-- what is told of a signer
pub data Told : Type 0 where
  -- a signer that answers each message as it is, and none at the end
  plain : Told
  -- it signs over this signature, for who signs, and goes on from the new signature
  signs_over : List ℕ → Signer → Told
  -- nothing is told
  untold : Told

-- the reason why a message has no frame, as an error
abbrev pub encoding_refusal : ErrorKind → SignMessageError
encoding_refusal kind = FailedToEncodeMessage (error_of kind)

-- why nothing is signed at a moment: it lies outside the years 0 to 9999
abbrev pub unsigned_at : Instant → Option SignMessageError
unsigned_at t = if is_in_years t then None else Some (MomentOutOfRange t)

-- why a message isn't signed: it has no frame, or the moment lies outside the years 0 to 9999
abbrev pub unsigned_message : Parts → Instant → Option SignMessageError
unsigned_message message t = option_or (option_map encoding_refusal (unframed message)) (unsigned_at t)

-- with no reason against it the answer is the link of the bytes over the signature, and the signer goes on from the new one;
-- else it is the reason, or memory ran out, and the signer stays
abbrev pub SignsLink : Option SignMessageError → List ℕ → Signer → List ℕ → Instant → Result Parts SignMessageError → Told → Type 0
SignsLink refused signature signer bytes t (Ok answer) now =
    (refused ≡ None) × (answer ≡ link_message signer signature bytes t) × (now ≡ signs_over (link_signature signer signature bytes t) signer)
SignsLink refused signature signer bytes t (Err error) now = ((refused ≡ Some error) ⊎ (error ≡ NoMemory)) × (now ≡ signs_over signature signer)

-- what a signer answers for a message, by what is told of it before and after
abbrev pub Signs : Told → Parts → Instant → Result Parts SignMessageError → Told → Type 0
Signs plain message t (Ok answer) now = (answer ≡ message) × (now ≡ plain)
Signs plain message t (Err error) now = (error ≡ NoMemory) × (now ≡ plain)
Signs (signs_over signature signer) message t result now = SignsLink (unsigned_message message t) signature signer (frame message) t result now
Signs untold message t result now = now ≡ untold

-- what a signer answers for the empty message at the end, by what is told of it before and after
abbrev pub SignsEmpty : Told → Instant → Option (Result Parts SignMessageError) → Told → Type 0
SignsEmpty plain t result now = (result ≡ None) × (now ≡ plain)
SignsEmpty (signs_over signature signer) t None now = ⊥
SignsEmpty (signs_over signature signer) t (Some result) now = SignsLink (unsigned_at t) signature signer [] t result now
SignsEmpty untold t result now = now ≡ untold
