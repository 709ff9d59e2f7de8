-- Who signs, for which region and service, and the signing key that is kept for its day.
use Rattle.std.specs.Prelude.{◌≡◌, ℕ, List, Option, if◌then◌else◌}
use Rattle.smithy_core.specs.Civil.{is_in_years}
use Rattle.smithy_core.specs.Identity.{IsCredentials, access_key_id, secret_access_key, secret_of, session_token}
use Rattle.smithy_core.specs.Moment.{Instant}
use Rattle.smithy_core.specs.declared.identity.Credentials.{Credentials as Keys}
use Rattle.smithy_core.specs.declared.identity.Identity.{Identity}
use Rattle.eventstream.specs.Key.{Signer}
use Rattle.sigv4.specs.KeptKey.{Kept, kept_at, no_key}

-- the key's id and the token, and the key that is kept, with who signs, for which region and service
pub record HeldKey : Type 0 where
  pub key_id : List ℕ
  pub token : Option (List ℕ)
  pub kept : Kept

-- who signs, by credentials, a region and a service's name
abbrev pub signer_with : Keys → List ℕ → List ℕ → Signer
signer_with credentials region name = record { secret = secret_access_key credentials; region = region; name = name }

-- credentials for a region and a service's name, of which no key was derived yet
abbrev pub held_key : Keys → List ℕ → List ℕ → HeldKey
held_key credentials region name =
    record { key_id = access_key_id credentials; token = session_token credentials; kept = no_key (signer_with credentials region name) }

-- the key of a moment is kept, where it lies in the years 0 to 9999
abbrev pub key_kept : HeldKey → Instant → HeldKey
key_kept held at = if is_in_years at then record held { kept = kept_at held.kept at } else held

-- an identity that is credentials, and who signs by it for a region and a service
pub record IsHeldBy (identity : Identity) (region name : List ℕ) (signer : Signer) : Type 0 where
  pub credentials : IsCredentials identity
  pub signs : signer ≡ record { secret = secret_of identity; region = region; name = name }
