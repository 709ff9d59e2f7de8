use Rattle.std.proofs.Common.{◌≡◌, ◌++◌, map}
use Rattle.std.specs.Vec.Iter.{into_iter_items}
use Rattle.smithy_core.specs.TextPairs.{text_pairs}
use Rattle.sigv4.specs.Instructions.{instruction_pair}
use Rattle.sigv4.proofs.instructions.pairs_of.Given as goal

-- the pairs so far and those of the headers to come are those of all
abbrev pub invariant-loop-header : goal.invariant-loop-header
invariant-loop-header l = text_pairs l.pairs.items ++ map instruction_pair (into_iter_items l.header-iterator) ≡ map instruction_pair l.fn.headers.items
