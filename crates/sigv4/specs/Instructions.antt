-- What a signature adds to its request.
use Rattle.std.specs.Prelude.{ℕ, Bool, List, map}
use Rattle.smithy_core.specs.TextPairs.{all_inserted}
use Rattle.sigv4.specs.Query.{Pair}

-- a header that goes out: its name, its value, and whether that is to be kept out of logs
pub record Instruction : Type 0 where
  pub name : List ℕ
  pub value : List ℕ
  pub sensitive : Bool

-- headers and parameters
pub record Instructions : Type 0 where
  pub headers : List Instruction
  pub params : List Pair

-- the name and the value of a header or parameter that goes out
abbrev pub instruction_pair : Instruction → Pair
instruction_pair header = (header.name, header.value)

-- the headers after inserting these, in order
abbrev pub with_instructions : List Pair → List Instruction → List Pair
with_instructions headers instructions = all_inserted headers (map instruction_pair instructions)
