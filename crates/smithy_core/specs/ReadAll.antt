-- The texts of the faults of reading a source to its end.
use Rattle.std.specs.Prelude.{ℕ, List, codes}
use Rattle.smithy_core.specs.declared.outside.read_all.ReadFault.{ReadFault}
use Rattle.smithy_core.specs.declared.outside.read_all.ReadFault.TheVariants.{Failed, TooLarge, NoMemory}

-- what a fault of reading prints
abbrev pub read_fault_text : ReadFault → List ℕ
read_fault_text Failed = codes "the source failed"
read_fault_text TooLarge = codes "the source has more bytes than the limit"
read_fault_text NoMemory = codes "no memory"
