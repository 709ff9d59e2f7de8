use Rattle.std.proofs.Common.{◌≡◌, drop}
use Rattle.smithy_core.specs.TextPairs.{text_pairs}
use Rattle.request_door.specs.DoorCarried.{has_parameters}
use Rattle.request_door.proofs.carried.has_parameters.Given as goal

-- all pairs have a parameter exactly where those to come have one
abbrev pub invariant-loop-key : goal.invariant-loop-key
invariant-loop-key l = has_parameters (text_pairs (drop l.key-index l.pairs)) ≡ has_parameters (text_pairs l.pairs)
