use Rattle.std.proofs.Common.{◌≡◌, map, take, true}
use Rattle.std.specs.List.{list_all}
use Rattle.firuvaik_c.specs.Admitting.{is_text_key, key_pair}
use Rattle.firuvaik_c.proofs.door.keys_of.Given as goal

-- the keys that passed are texts, and were copied
abbrev pub invariant-loop-key : goal.invariant-loop-key
invariant-loop-key l =
    (list_all is_text_key (take l.key-index l.lent) ≡ true) × (l.keys ≡ map key_pair (take l.key-index l.lent))
