use Rattle.std.proofs.Common.{◌≡◌}
use Rattle.std.specs.List.{list_all}
use Rattle.request_door.specs.DoorNames.{is_signed_as_owed, name_texts}
use Rattle.request_door.proofs.names.are_signed_as_owed.Given as goal

-- all headers are signed as owed exactly where those to come are
abbrev pub invariant-loop-name : goal.invariant-loop-name
invariant-loop-name l =
    list_all (is_signed_as_owed l.place l.mode (name_texts l.names)) l.name-iterator ≡ list_all (is_signed_as_owed l.place l.mode (name_texts l.names)) l.headers
