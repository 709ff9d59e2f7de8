use Rattle.std.proofs.Common.{◌≡◌, drop}
use Rattle.std.specs.List.{list_any}
use Rattle.std.specs.Prelude.{bytes_eq}
use Rattle.request_door.specs.DoorNames.{name_texts}
use Rattle.request_door.proofs.names.is_listed.Given as goal

-- it is one of all exactly where it is one of those to come
abbrev pub invariant-loop-other : goal.invariant-loop-other
invariant-loop-other l = list_any (bytes_eq l.name) (name_texts (drop l.other-index l.names)) ≡ list_any (bytes_eq l.name) (name_texts l.names)
