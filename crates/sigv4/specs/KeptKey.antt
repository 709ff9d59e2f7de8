-- A signing key that is kept for a date.
use Rattle.std.specs.Prelude.{◌≡◌, ℕ, Bool, false, List, [], ◌++◌, codes, bytes_eq, if◌then◌else◌, Option, Some, None}
use Rattle.std.specs.Fmt.{decimal}
use Rattle.mac_core.specs.Mac.{HoldsMac, key_block}
use Rattle.smithy_core.specs.Calls.{one_more}
use Rattle.smithy_core.specs.Civil.{IsInYears, date}
use Rattle.smithy_core.specs.Moment.{Instant}
use Rattle.eventstream.specs.Key.{Signer, signing_key}
use Rattle.sigv4.specs.declared.kept_key.DayKey.{DayKey}

-- who signs, and for which region and service, the date of the key that is kept, and how many keys were derived
pub record Kept : Type 0 where
  pub signer : Signer
  pub date : Option (List ℕ)
  pub derivations : ℕ

-- no key was derived
abbrev pub no_key : Signer → Kept
no_key signer = record { signer = signer; date = None; derivations = 0 }

-- whether the kept key, if any, is that of the moment's date
abbrev pub is_kept : Option (List ℕ) → Instant → Bool
is_kept None at = false
is_kept (Some day) at = bytes_eq day (date at)

-- the moment's key is kept in place of any other, one more was derived
abbrev pub derived_at : Kept → Instant → Kept
derived_at kept at = record { signer = kept.signer; date = Some (date at); derivations = one_more kept.derivations }

-- the moment's key is kept, and was derived only where no key was kept, or that of another date
abbrev pub kept_at : Kept → Instant → Kept
kept_at kept at = if is_kept kept.date at then kept else derived_at kept at

-- what is printed of a kept key: how many were derived, and nothing of the secret or of a key
abbrev pub shown_key : Kept → List ℕ
shown_key kept = codes "KeptKey(" ++ (decimal kept.derivations ++ codes " derivations)")

-- what is kept is the signing key at its moment, and the HMAC under it
abbrev pub IsKeyFor : Signer → Option DayKey → Type 0
IsKeyFor signer None = Unit {0}
IsKeyFor signer (Some day) = IsInYears day.at × (day.key ≡ signing_key signer day.at) × HoldsMac day.keyed (key_block (signing_key signer day.at)) []
