use Rattle.std.proofs.Common.{◌≡◌, [], drop}
use Rattle.request_door.specs.DoorNames.{are_ordered_after, name_texts}
use Rattle.request_door.proofs.names.are_ordered.Given as goal

-- all names are in order exactly where those to come are, after the last
abbrev pub invariant-loop-name : goal.invariant-loop-name
invariant-loop-name l = are_ordered_after l.last (name_texts (drop l.name-index l.names)) ≡ are_ordered_after [] (name_texts l.names)
