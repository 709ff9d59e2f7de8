-- A request that was presigned is accepted while it is good.
use Rattle.std.specs.Prelude.{◌≡◌, ℕ, Some, Result, Ok, Err, ℤ, pos, ◌+ℤ◌, ◌≤ℤ◌, ◌<ℤ◌}
use Rattle.sigv4.specs.Request.{Case}
use Rattle.sigv4.specs.declared.settings.SignatureLocation.TheVariants.{QueryParams}
use Rattle.request_check.specs.Recomputation.{IsSentOf, IsSignedAsSent}
use Rattle.presign_check.specs.Presigned.{PresignInput}
use Rattle.presign_check.specs.declared.fault.PresignFault.{PresignFault}
use Rattle.presign_check.specs.declared.fault.PresignFault.TheVariants.{NoMemory}

-- the request that is asked about is the signed request of this case, which is signed in query form for so many seconds, with these settings, this
-- payload, this secret, region and name, and this key's id
pub record IsPresignedAs (asked : PresignInput) (c : Case) (seconds : ℕ) : Type 0 where
  pub settings : c.settings ≡ asked.settings
  pub payload : c.payload ≡ asked.payload
  pub signer : c.signer ≡ asked.signer
  pub key_id : c.key_id ≡ asked.key_id
  pub place : c.settings.signature_location ≡ QueryParams
  pub expiry : c.settings.expires_in ≡ Some seconds
  pub signed : IsSignedAsSent c
  pub sent : IsSentOf c asked.request

-- it is accepted until this second, unless memory runs out
abbrev pub IsAcceptedUntil : ℤ → Result ℤ PresignFault → Type 0
IsAcceptedUntil until (Ok answer) = answer ≡ until
IsAcceptedUntil until (Err NoMemory) = Unit {0}
IsAcceptedUntil until (Err _) = ⊥

-- what is answered of the signed request of a case at each moment from its second on, and before so many seconds passed
abbrev pub AcceptsSigned : PresignInput → Result ℤ PresignFault → Type 0
AcceptsSigned asked result =
    (c : Case) (seconds : ℕ) → IsPresignedAs asked c seconds → c.at.secs ≤ℤ asked.now.secs → asked.now.secs <ℤ (c.at.secs +ℤ pos seconds)
    → IsAcceptedUntil (c.at.secs +ℤ pos seconds) result
