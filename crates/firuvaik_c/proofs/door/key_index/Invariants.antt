use Rattle.std.proofs.Common.{◌≡◌, ◌+◌, drop, map}
use Rattle.smithy_core.specs.TextPairs.{first_place}
use Rattle.firuvaik_c.specs.Admitting.{key_pair}
use Rattle.firuvaik_c.proofs.door.key_index.Given as goal

-- the index among all is that among the keys to come, after those that passed
abbrev pub invariant-loop-index : goal.invariant-loop-index
invariant-loop-index l = first_place (map key_pair l.keys) l.id ≡ l.index + first_place (map key_pair (drop l.index l.keys)) l.id
