use Rattle.std.proofs.Common.{◌≡◌, drop}
use Rattle.smithy_core.specs.TextPairs.{first_value, lower, named_values, text_pairs}
use Rattle.smithy_core.proofs.header_values.after_named.Given as goal

-- no pair that passed has the name
abbrev pub invariant-loop-at : goal.invariant-loop-at
invariant-loop-at l = record {
  first : first_value (text_pairs l.pairs) (lower l.name) ≡ first_value (text_pairs (drop l.at l.pairs)) (lower l.name);
  values : named_values (text_pairs l.pairs) (lower l.name) ≡ named_values (text_pairs (drop l.at l.pairs)) (lower l.name);
}
