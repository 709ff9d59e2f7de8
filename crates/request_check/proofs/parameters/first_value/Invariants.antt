use Rattle.std.proofs.Common.{◌≡◌, drop}
use Rattle.smithy_core.specs.TextPairs.{first_value, text_pairs}
use Rattle.request_check.proofs.parameters.first_value.Given as goal

-- no pair that passed has the key
abbrev pub invariant-loop-name : goal.invariant-loop-name
invariant-loop-name l = first_value (text_pairs l.pairs) l.key ≡ first_value (text_pairs (drop l.name-index l.pairs)) l.key
