use Rattle.std.proofs.Common.{◌≡◌, ◌+◌, drop}
use Rattle.smithy_core.specs.TextPairs.{first_place, text_pairs}
use Rattle.smithy_core.proofs.headers.first_place.Given as goal

-- the place among all is that among the pairs to come, after those that passed
abbrev pub invariant-loop-at : goal.invariant-loop-at
invariant-loop-at l = first_place (text_pairs l.pairs) l.name ≡ l.at + first_place (text_pairs (drop l.at l.pairs)) l.name
