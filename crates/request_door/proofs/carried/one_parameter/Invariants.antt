use Rattle.std.proofs.Common.{◌≡◌, ◌++◌, drop}
use Rattle.smithy_core.specs.TextPairs.{named_values, text_pairs}
use Rattle.presign_check.proofs.ParameterLemmas.{found_values}
use Rattle.request_door.proofs.carried.one_parameter.Given as goal

-- the value that was found and those to come are all
abbrev pub invariant-loop-key : goal.invariant-loop-key
invariant-loop-key l = found_values l.found ++ named_values (text_pairs (drop l.key-index l.pairs)) l.name ≡ named_values (text_pairs l.pairs) l.name
