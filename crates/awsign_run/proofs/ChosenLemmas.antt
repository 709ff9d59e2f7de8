-- Who signs.
use Rattle.std.proofs.Common.{◌≡◌, ◌<◌, ℕ, Bool, true, false, inl, List, [], ◌∷◌, Option, Some, None, codes, option_map, length, refl, ap, arith}
use Rattle.std.specs.Prelude.{IfSome, Result, Ok, Err}
use Rattle.smithy_core.specs.TextPairs.{last_value}
use Rattle.aws_settings.specs.Choice.{ChosenKey, ChosenSettings, IsLackOf, Lack, Profile, choice_by, chosen_key, chosen_settings, filled, key_behind, key_or, key_with, lack_in, no_key, no_secret, region_by, settings_of_parts, variable}
use Rattle.aws_settings.specs.declared.fault.SettingsFault.{SettingsFault}
use Rattle.awsign_run.specs.Chosen.{IsFaultOf, as_refused, lack_refusal, refusal_of, signs_for}
use Rattle.awsign_run.specs.declared.fault.Fault.{Fault}

-- ## Where settings lack something

lacks_by : (paths : List ℕ) (planned : Result ChosenSettings Lack) (service : Option (List ℕ)) (found : Option Lack) (made : Fault) → IfSome found (λ lack. planned ≡ Err lack)
    → Some (refusal_of made) ≡ option_map (lack_refusal paths) found → IsFaultOf (signs_for (as_refused paths planned) service) made
lacks_by paths planned service None made is refuses = absurd cc
lacks_by paths planned service (Some lack) made is refuses =
    let same : refusal_of made ≡ lack_refusal paths lack = cc in
    inl (rw (is, same) refl)

-- nobody signs
pub nobody_without : (paths : List ℕ) (planned : Result ChosenSettings Lack) (service : Option (List ℕ)) (fault : SettingsFault) (made : Fault) → IsLackOf planned fault
    → Some (refusal_of made) ≡ option_map (lack_refusal paths) (lack_in fault) → IsFaultOf (signs_for (as_refused paths planned) service) made
nobody_without paths planned service fault made is refuses = lacks_by paths planned service (lack_in fault) made is refuses

-- ## No part of a key is empty

-- neither the id nor the secret of a key is empty
abbrev pub IsFilledKey : ChosenKey → Type 0
IsFilledKey key = (0 < length key.id) × (0 < length key.secret)

key_filled : (id secret token : Option (List ℕ)) (lack : Lack) (key : ChosenKey) → key_or lack (key_with (filled id) (filled secret) token) ≡ Ok key → IsFilledKey key
key_filled None secret token lack key is = absurd cc
key_filled (Some []) secret token lack key is = absurd cc
key_filled (Some (a ∷ id)) None token lack key is = absurd cc
key_filled (Some (a ∷ id)) (Some []) token lack key is = absurd cc
key_filled (Some (a ∷ id)) (Some (b ∷ secret)) token lack key is =
    let same : ◌≡◌ {A = ChosenKey} (record { id = a ∷ id; secret = b ∷ secret; token = token }) key = cc in
    rw (← same) (omega arith, omega arith)

behind_filled : (env : List (List ℕ × List ℕ)) (profile : Profile) (set : Option (List ℕ)) (key : ChosenKey) → key_behind env profile (filled set) ≡ Ok key → IsFilledKey key
behind_filled env profile None key is = key_filled profile.key_id profile.secret (filled profile.token) (no_key profile.name) key is
behind_filled env profile (Some []) key is = key_filled profile.key_id profile.secret (filled profile.token) (no_key profile.name) key is
behind_filled env profile (Some (a ∷ id)) key is =
    key_filled (Some (a ∷ id)) (last_value env (codes "AWS_SECRET_ACCESS_KEY")) (variable env (codes "AWS_SESSION_TOKEN")) no_secret key is

chosen_key_filled : (names_profile : Bool) (env : List (List ℕ × List ℕ)) (profile : Profile) (key : ChosenKey) → chosen_key names_profile env profile ≡ Ok key → IsFilledKey key
chosen_key_filled true env profile key is = behind_filled env profile None key is
chosen_key_filled false env profile key is = behind_filled env profile (last_value env (codes "AWS_ACCESS_KEY_ID")) key is

key_of_settings : (name : List ℕ) (planned : Result ChosenKey Lack) (region : Option (List ℕ)) (settings : ChosenSettings) → settings_of_parts name planned region ≡ Ok settings
    → planned ≡ Ok settings.key
key_of_settings name (Err lack) region settings is = absurd cc
key_of_settings name (Ok key) None settings is = absurd cc
key_of_settings name (Ok key) (Some region) settings is =
    let same : ◌≡◌ {A = ChosenSettings} (record { key = key; region = region }) settings = cc in
    ap (λ (made : ChosenSettings). Ok made.key) same

-- neither the key's id nor its secret is empty where there are settings
pub settings_filled : (names_profile : Bool) (region : Option (List ℕ)) (env : List (List ℕ × List ℕ)) (profile : Result Profile Lack) (settings : ChosenSettings)
    → choice_by names_profile region env profile ≡ Ok settings → IsFilledKey settings.key
unfolding chosen_settings
settings_filled names_profile region env (Ok profile) settings is =
    chosen_key_filled names_profile env profile settings.key
    (key_of_settings profile.name (chosen_key names_profile env profile) (region_by region env profile) settings is)
settings_filled names_profile region env (Err lack) settings is = absurd cc
