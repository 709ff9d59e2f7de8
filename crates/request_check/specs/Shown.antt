-- What is printed of a seal and of a fault.
use Rattle.std.specs.Prelude.{ℕ, List, ◌++◌, codes}
use Rattle.std.specs.Fmt.{signed_decimal}
use Rattle.smithy_core.specs.Moment.{Instant}
use Rattle.sigv4.specs.Error.{error_text}
use Rattle.request_check.specs.declared.check.CheckRequestFault.{CheckRequestFault}
use Rattle.request_check.specs.declared.check.CheckRequestFault.TheVariants.{NoMemory, NoSignature, Signing}

-- what is printed of a seal: the second of its moment, and nothing else
abbrev pub shown_seal : Instant → List ℕ
shown_seal at = codes "Seal(at " ++ (signed_decimal at.secs ++ codes ")")

-- the text of a fault
abbrev pub check_fault_text : CheckRequestFault → List ℕ
check_fault_text NoSignature = codes "no signature"
check_fault_text (Signing error) = error_text error
check_fault_text NoMemory = codes "no memory"
