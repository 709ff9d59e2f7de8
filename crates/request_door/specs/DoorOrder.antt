-- Tests in an order: the first that is met decides. A test goes by the fault that it answers.
use Rattle.std.specs.Prelude.{◌≡◌, ◌⊎◌, List, [], ◌∷◌, Result, Ok, Err}
use Rattle.request_door.specs.declared.fault.DoorFault.{DoorFault}

-- this fault's test is met, and none of those before it in the list
abbrev pub IsFirstMet : (DoorFault → Type 0) → List DoorFault → DoorFault → Type 0
IsFirstMet meets [] fault = ⊥
IsFirstMet meets (test ∷ tests) fault = (meets test × (fault ≡ test)) ⊎ ((meets test → ⊥) × IsFirstMet meets tests fault)

-- no test of the list is met
abbrev pub NoneMet : (DoorFault → Type 0) → List DoorFault → Type 0
NoneMet meets [] = Unit {0}
NoneMet meets (test ∷ tests) = (meets test → ⊥) × NoneMet meets tests

-- none of the tests is met, or the first of them that is decides
abbrev pub PassesTests : (DoorFault → Type 0) → List DoorFault → Result (Unit {0}) DoorFault → Type 0
PassesTests meets tests (Ok _) = NoneMet meets tests
PassesTests meets tests (Err fault) = IsFirstMet meets tests fault
