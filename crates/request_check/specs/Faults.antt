-- What errors of the layer below become.
use Rattle.std.specs.Prelude.{◌≡◌}
use Rattle.sigv4.specs.Error.{IsSameError}
use Rattle.sigv4.specs.declared.error.SigningError.{SigningError}
use Rattle.sigv4.specs.declared.error.SigningError.TheVariants.{NoMemory as NoRoom}
use Rattle.request_check.specs.declared.check.CheckRequestFault.{CheckRequestFault}
use Rattle.request_check.specs.declared.check.CheckRequestFault.TheVariants.{NoMemory, Signing}

-- the fault of a check that the second error stands for, where the first isn't that memory ran out
abbrev pub check_fault_for : SigningError → SigningError → CheckRequestFault
check_fault_for NoRoom error = NoMemory
check_fault_for _ error = Signing error

-- `NoMemory` stays what it is
abbrev pub fault_of : SigningError → CheckRequestFault
fault_of error = check_fault_for error error

-- the faults of a check are the same, and so are the texts of an encoding that failed
abbrev pub IsSameCheckFault : CheckRequestFault → CheckRequestFault → Type 0
IsSameCheckFault (Signing error) (Signing copy) = IsSameError error copy
IsSameCheckFault fault copy = copy ≡ fault
