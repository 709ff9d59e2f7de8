-- A request has one answer at a service's door.
use Rattle.std.specs.Prelude.{◌≡◌, ◌⊎◌, Result, Ok, Err, string_bytes}
use Rattle.request_door.specs.Doors.{AnswersDoor, DoorInput}
use Rattle.request_door.specs.declared.admitted.Admitted.{Admitted}
use Rattle.request_door.specs.declared.fault.DoorFault.{DoorFault}
use Rattle.request_door.specs.declared.fault.DoorFault.TheVariants.{NoMemory}

-- the same is said of an admitted request
pub record IsSameAdmitted (admitted other : Admitted) : Type 0 where
  pub key_id : string_bytes other.key_id ≡ string_bytes admitted.key_id
  pub place : other.place ≡ admitted.place
  pub at : other.at ≡ admitted.at
  pub until : other.until ≡ admitted.until
  pub names : string_bytes other.names ≡ string_bytes admitted.names
  pub payload : other.payload ≡ admitted.payload
  pub signature : string_bytes other.signature ≡ string_bytes admitted.signature

-- the answers are the same, unless memory ran out
abbrev pub IsSameAtDoor : Result Admitted DoorFault → Result Admitted DoorFault → Type 0
IsSameAtDoor (Ok admitted) (Ok other) = IsSameAdmitted admitted other
IsSameAtDoor (Ok admitted) (Err other) = other ≡ NoMemory
IsSameAtDoor (Err fault) (Ok other) = fault ≡ NoMemory
IsSameAtDoor (Err fault) (Err other) = (other ≡ fault) ⊎ ((fault ≡ NoMemory) ⊎ (other ≡ NoMemory))

-- what is answered of a request is the same each time, so each fault comes exactly where its test is the first that is met
abbrev pub HasOneDoorAnswer : DoorInput → Type 0
HasOneDoorAnswer asked = (answer other : Result Admitted DoorFault) → AnswersDoor asked answer → AnswersDoor asked other → IsSameAtDoor answer other
