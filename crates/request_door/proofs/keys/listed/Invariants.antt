use Rattle.std.proofs.Common.{◌≡◌, drop}
use Rattle.smithy_core.specs.TextPairs.{first_value, text_pairs}
use Rattle.request_door.proofs.keys.listed.Given as goal

-- the first of all is the first of those to come
abbrev pub invariant-loop-id : goal.invariant-loop-id
invariant-loop-id l = first_value (text_pairs (drop l.id-index l.pairs)) l.key_id ≡ first_value (text_pairs l.pairs) l.key_id
