-- Why an item isn't sent: what a fault becomes, and what is printed.
use Rattle.std.specs.Prelude.{ℕ, List}
use Rattle.smithy_core.specs.declared.raw_message.RawMessage.{RawMessage}
use Rattle.smithy_core.specs.declared.sdk_error.SdkError.{SdkError}
use Rattle.smithy_core.specs.declared.sdk_error.SdkError.TheVariants.{ConstructionFailure, NoMemory}
use Rattle.eventstream.specs.Error.{IsSameKind, error_kind, error_kind_text}
use Rattle.eventstream.specs.Sign.{IsSameSignError, sign_error_text}
use Rattle.eventstream.specs.declared.error.ErrorKind.{ErrorKind}
use Rattle.eventstream.specs.declared.error.ErrorKind.TheVariants as kinds
use Rattle.eventstream.specs.declared.sign_error.SignMessageError.TheVariants as signing
use Rattle.event_io.specs.declared.adapter_fault.AdapterFault.{AdapterFault}
use Rattle.event_io.specs.declared.adapter_fault.AdapterFault.TheVariants.{Marshall, Sign, Write}

-- the error of sending
abbrev pub SendError : Type 0
SendError = SdkError AdapterFault AdapterFault RawMessage

-- the error of an item that isn't sent for a reason
abbrev pub send_error_for : ErrorKind → AdapterFault → SendError
send_error_for kinds.NoMemory fault = NoMemory
send_error_for _ fault = ConstructionFailure fault

-- the error of an item that isn't sent: `NoMemory`, at any depth, stays what it is
abbrev pub send_error : AdapterFault → SendError
send_error (Marshall error) = send_error_for (error_kind error) (Marshall error)
send_error (Sign signing.NoMemory) = NoMemory
send_error (Sign (signing.FailedToEncodeMessage error)) = send_error_for (error_kind error) (Sign (signing.FailedToEncodeMessage error))
send_error (Sign error) = ConstructionFailure (Sign error)
send_error (Write error) = send_error_for (error_kind error) (Write error)

-- the faults of an adapter are the same, and so are the texts that they carry
abbrev pub IsSameFault : AdapterFault → AdapterFault → Type 0
IsSameFault (Marshall error) (Marshall copy) = IsSameKind (error_kind error) (error_kind copy)
IsSameFault (Sign error) (Sign copy) = IsSameSignError error copy
IsSameFault (Write error) (Write copy) = IsSameKind (error_kind error) (error_kind copy)
IsSameFault _ _ = ⊥

-- what is printed
abbrev pub fault_text : AdapterFault → List ℕ
fault_text (Marshall error) = error_kind_text (error_kind error)
fault_text (Sign error) = sign_error_text error
fault_text (Write error) = error_kind_text (error_kind error)
