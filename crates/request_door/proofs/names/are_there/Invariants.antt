use Rattle.std.proofs.Common.{◌≡◌, drop}
use Rattle.std.specs.List.{list_all}
use Rattle.request_door.specs.DoorNames.{is_there, name_texts}
use Rattle.request_door.proofs.names.are_there.Given as goal

-- all names are there exactly where those to come are
abbrev pub invariant-loop-name : goal.invariant-loop-name
invariant-loop-name l = list_all (is_there l.headers) (name_texts (drop l.name-index l.names)) ≡ list_all (is_there l.headers) (name_texts l.names)
