-- What the fault of an id prints.
use Rattle.std.specs.Prelude.{ℕ, List, codes}
use Rattle.aws_intercept.specs.declared.id_fault.IdFault.{IdFault}
use Rattle.aws_intercept.specs.declared.id_fault.IdFault.TheVariants.{UsedUp, NoMemory}

-- what the fault of an invocation id prints
abbrev pub id_fault_text : IdFault → List ℕ
id_fault_text UsedUp = codes "all invocation ids were given"
id_fault_text NoMemory = codes "no memory"
