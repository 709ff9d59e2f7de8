use Rattle.std.proofs.Common.{◌≡◌, map}
use Rattle.request_door.specs.DoorNames.{name_texts}
use Rattle.request_door.proofs.names.listed.Given as goal

-- the names so far are listed
abbrev pub invariant-loop-name : goal.invariant-loop-name
invariant-loop-name l =
    (goal.iterator-loop-name).can_next l.name-iterator × (goal.iterator-loop-name).is_finite l.name-iterator
    × (name_texts l.listed.items ≡ map (λ w. w.now) l.yielded)
