-- Why a message isn't received: what a fault becomes, and what is printed.
use Rattle.std.specs.Prelude.{ℕ, Bool, true, false, if◌then◌else◌, List, codes}
use Rattle.smithy_core.specs.declared.raw_message.RawMessage.{RawMessage}
use Rattle.smithy_core.specs.declared.sdk_error.SdkError.{SdkError}
use Rattle.smithy_core.specs.declared.sdk_error.SdkError.TheVariants.{NoMemory, ResponseError}
use Rattle.eventstream.specs.Error.{IsSameKind, error_kind, error_kind_text}
use Rattle.eventstream.specs.declared.error.ErrorKind.{ErrorKind}
use Rattle.eventstream.specs.declared.error.ErrorKind.TheVariants as kinds
use Rattle.event_io.specs.declared.response_fault.ResponseFault.{ResponseFault}
use Rattle.event_io.specs.declared.response_fault.ResponseFault.TheVariants.{Frame, UnexpectedEndOfStream, Unmarshall, Preprocessor}

-- the error of receiving, beside the errors that the service sends
abbrev pub ReceiveError : Type 0 → Type 0
ReceiveError E = SdkError E ResponseFault RawMessage

-- whether an error is `NoMemory`
abbrev pub is_want_kind : ErrorKind → Bool
is_want_kind kinds.NoMemory = true
is_want_kind _ = false

-- whether a fault carries `NoMemory`
abbrev pub is_want : ResponseFault → Bool
is_want (Frame error) = is_want_kind (error_kind error)
is_want (UnexpectedEndOfStream end) = false
is_want (Unmarshall error) = is_want_kind (error_kind error)
is_want (Preprocessor error) = is_want_kind (error_kind error)

-- the error of a message that isn't received: `NoMemory` stays what it is
abbrev pub response_error : {E : Type 0} → ResponseFault → RawMessage → ReceiveError E
response_error fault raw = if is_want fault then NoMemory else ResponseError fault raw

-- the faults of a receiver are the same, and so are the texts that they carry
abbrev pub IsSameResponseFault : ResponseFault → ResponseFault → Type 0
IsSameResponseFault (Frame error) (Frame copy) = IsSameKind (error_kind error) (error_kind copy)
IsSameResponseFault (UnexpectedEndOfStream end) (UnexpectedEndOfStream copy) = Unit {0}
IsSameResponseFault (Unmarshall error) (Unmarshall copy) = IsSameKind (error_kind error) (error_kind copy)
IsSameResponseFault (Preprocessor error) (Preprocessor copy) = IsSameKind (error_kind error) (error_kind copy)
IsSameResponseFault _ _ = ⊥

-- what is printed of an end within a frame
abbrev pub receiver_error_text : List ℕ
receiver_error_text = codes "unexpected end of stream"

-- what is printed
abbrev pub response_fault_text : ResponseFault → List ℕ
response_fault_text (Frame error) = error_kind_text (error_kind error)
response_fault_text (UnexpectedEndOfStream end) = receiver_error_text
response_fault_text (Unmarshall error) = error_kind_text (error_kind error)
response_fault_text (Preprocessor error) = error_kind_text (error_kind error)
