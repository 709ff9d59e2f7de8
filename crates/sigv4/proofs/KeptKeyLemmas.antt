-- The signing key of a date.
use Rattle.std.proofs.Common.{◌≡◌, Bool, true, false, if◌then◌else◌, Option, Some, [], refl, subst}
use Rattle.std.specs.Prelude.{bytes_eq, option_map}
use Rattle.std.proofs.lemmas.Slice.Eq.{bytes_eq-Decides}
use Rattle.mac_core.specs.Mac.{HoldsMac, key_block}
use Rattle.smithy_core.specs.Civil.{date}
use Rattle.smithy_core.specs.Moment.{Instant}
use Rattle.eventstream.specs.Key.{Signer, signing_key}
use Rattle.sigv4.specs.KeptKey.{IsKeyFor, Kept, derived_at, is_kept, kept_at}
use Rattle.sigv4.specs.declared.kept_key.DayKey.{DayKey}

-- the signing key of a date is that of each of its moments
key_of_date : (signer : Signer) (t u : Instant) → bytes_eq (date t) (date u) ≡ true → signing_key signer t ≡ signing_key signer u
unfolding signing_key
key_of_date signer t u same = let is : date t ≡ date u = (bytes_eq-Decides (date t) (date u)).0 same in rw is refl

abbrev IsDayOf : Signer → Instant → DayKey → Type 0
IsDayOf signer at day = (day.key ≡ signing_key signer at) × HoldsMac day.keyed (key_block (signing_key signer at)) []

day_in : (signer : Signer) (day : DayKey) (at : Instant) → IsKeyFor signer (Some day) → bytes_eq (date day.at) (date at) ≡ true → IsDayOf signer at day
day_in signer day at own same = subst (λ key. (day.key ≡ key) × HoldsMac day.keyed (key_block key) []) (key_of_date signer day.at at same) (own.1, own.2)

-- the key of a date, and the HMAC under it, are those of each of its moments
pub kept_day : (signer : Signer) (held : Option DayKey) (day : DayKey) (at : Instant) → held ≡ Some day → IsKeyFor signer held
    → is_kept (option_map (λ (day : DayKey). date day.at) held) at ≡ true → IsDayOf signer at day
kept_day signer held day at is own same =
    day_in signer day at (subst (λ h. IsKeyFor signer h) is own) (subst (λ h. is_kept (option_map (λ (day : DayKey). date day.at) h) at ≡ true) is same)

-- who signs stays, whichever key is kept
pub kept_signer : (kept : Kept) (t : Instant) → (kept_at kept t).signer ≡ kept.signer
kept_signer kept t = by (is_kept kept.date t) where
  by : (b : Bool) → (if b then kept else derived_at kept t).signer ≡ kept.signer
  by true = refl
  by false = refl
