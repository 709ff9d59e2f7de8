-- What contracts say of a transport, and what its faults print.
use Rattle.std.specs.Prelude.{◌≡◌, ℕ, ◌≤◌, List, ◌++◌, codes, length, Option, Some, None}
use Rattle.operation_run.specs.declared.transport.SendFault.{SendFault}
use Rattle.operation_run.specs.declared.transport.SendFault.TheVariants.{Failed, NoMemory}

-- a list that is told has these at its end now
abbrev pub Appends : {A : Type 0} → Option (List A) → Option (List A) → List A → Type 0
Appends None now more = now ≡ None
Appends (Some before) now more = now ≡ Some (before ++ more)

-- as many replies came as are settled, where both are told
abbrev pub HasGivenAll : {A : Type 0} → Option (List A) → Option (List A) → Type 0
HasGivenAll None replied = Unit {0}
HasGivenAll (Some all) None = Unit {0}
HasGivenAll (Some all) (Some replied) = length all ≤ length replied

-- what the fault of a transport prints
abbrev pub send_fault_text : SendFault → List ℕ
send_fault_text Failed = codes "the transport failed"
send_fault_text NoMemory = codes "no memory"
