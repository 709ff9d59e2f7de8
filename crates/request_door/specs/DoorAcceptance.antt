-- A request that was signed is never refused for its signature.
use Rattle.std.specs.Prelude.{◌≡◌, Some}
use Rattle.sigv4.specs.Request.{Case}
use Rattle.request_check.specs.Recomputation.{IsSentOf, IsSignedAsSent}
use Rattle.request_door.specs.Doors.{DoorInput, DoorReading, HasKey, MeetsLast, door_payload}
use Rattle.request_door.specs.declared.fault.DoorFault.TheVariants.{Mismatch}

-- the request that came is the signed request of this case, which was signed in either form with these settings, for this region and name, with a key that is
-- known by its secret; and what was signed of the payload is what the request shows, or goes without saying
pub record IsSignedForDoor (asked : DoorInput) (c : Case) : Type 0 where
  pub settings : c.settings ≡ asked.settings
  pub region : c.signer.region ≡ asked.region
  pub name : c.signer.name ≡ asked.name
  pub known : asked.secrets c.key_id ≡ Some c.signer.secret
  pub payload : (reading : DoorReading) → HasKey asked reading → c.payload ≡ door_payload asked reading
  pub signed : IsSignedAsSent c
  pub sent : IsSentOf c asked.request

-- of a request that was signed the test of the signature isn't met
abbrev pub IsOwnSignature : DoorInput → Type 0
IsOwnSignature asked = (c : Case) → IsSignedForDoor asked c → (reading : DoorReading) → HasKey asked reading → MeetsLast asked reading Mismatch → ⊥
