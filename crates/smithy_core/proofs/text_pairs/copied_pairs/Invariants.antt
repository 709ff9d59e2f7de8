use Rattle.std.proofs.Common.{◌≡◌, take}
use Rattle.smithy_core.specs.TextPairs.{text_pairs}
use Rattle.smithy_core.proofs.text_pairs.copied_pairs.Given as goal

-- the pairs that passed are copied
abbrev pub invariant-loop-pair : goal.invariant-loop-pair
invariant-loop-pair l = text_pairs l.copies.items ≡ text_pairs (take l.pair-index l.pairs)
