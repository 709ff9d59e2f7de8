-- Sections that were read for the keys and the service give the settings that all sections give.
use Rattle.std.proofs.Common.{◌≡◌, ◌∙◌, ℕ, List, [], ◌∷◌, refl, ap, ap₂, subst}
use Rattle.std.specs.Prelude.{Option, Some, None, option_map, Result, Ok, Err, codes}
use Rattle.std.specs.Option.{option_or}
use Rattle.env_config.specs.Sections.{FaultyLine, Sections}
use Rattle.env_config.specs.Selected.{GivesSelected, HasSelectedKeys, HasService, kept_of}
use Rattle.env_config.specs.Value.{Chosen, Found, InProfile, Own, Shared, found_as, in_profile, in_variables, selected_value, value}
use Rattle.env_config.specs.declared.selected_profile.SelectedProfile.{SelectedProfile}
use Rattle.signed_stream.specs.Settings.{GivesSettings, Selected, selected_or_missing, settings_from, settings_in}
use Rattle.signed_stream.specs.Status.{RunFault}
use Rattle.signed_stream.specs.declared.settings.Settings.{Settings}
use Rattle.signed_stream.specs.declared.settings.SettingsFault.{SettingsFault}

-- the keys that settings are read from
abbrev pub setting_keys : List (List ℕ)
setting_keys = codes "aws_access_key_id" ∷ codes "aws_secret_access_key" ∷ codes "aws_session_token" ∷ codes "region" ∷ []

region_found : (all some : Chosen) (id : Option (List ℕ)) → some.selected ≡ all.selected → HasSelectedKeys setting_keys all some → HasService setting_keys id all some → in_profile some id (codes "region") ≡ in_profile all id (codes "region")
region_found all some None selected keys service =
    ap₂ (λ (name : List ℕ) (own : Option (List ℕ)). found_as (codes "region") (InProfile name) Shared own) selected (keys (codes "region") refl)
region_found all some (Some id) selected keys service =
    ap₂ option_or
    (ap₂ (λ (name : List ℕ) (own : Option (List ℕ)). found_as (codes "region") (InProfile name) (Own id) own) selected (service (codes "region") refl))
    (ap₂ (λ (name : List ℕ) (own : Option (List ℕ)). found_as (codes "region") (InProfile name) Shared own) selected (keys (codes "region") refl))

settings_alike : (all some : Chosen) (env : List (List ℕ × List ℕ)) (id : Option (List ℕ)) → some.selected ≡ all.selected → HasSelectedKeys setting_keys all some → HasService setting_keys id all some
    → settings_in some env id ≡ settings_in all env id
unfolding value
settings_alike all some env id selected keys service =
    let give : List ℕ → Option (List ℕ) → Option (List ℕ) → Option (List ℕ) → Option Found → Result Selected RunFault = λ name key_id secret token found.
    selected_or_missing name key_id secret token (option_map (λ found. found.value) (option_or (in_variables env id (codes "AWS_REGION")) found)) in
    let key_id : Chosen → Option (List ℕ) = λ chosen. selected_value chosen (codes "aws_access_key_id") in
    let secret : Chosen → Option (List ℕ) = λ chosen. selected_value chosen (codes "aws_secret_access_key") in
    let token : Chosen → Option (List ℕ) = λ chosen. selected_value chosen (codes "aws_session_token") in
    let region : Chosen → Option Found = λ chosen. in_profile chosen id (codes "region") in
    ap (λ (name : List ℕ). give name (key_id some) (secret some) (token some) (region some)) selected
    ∙ ap₂ (λ (k s : Option (List ℕ)). give all.selected k s (token some) (region some)) (keys (codes "aws_access_key_id") refl) (keys (codes "aws_secret_access_key") refl)
    ∙ ap₂ (λ (t : Option (List ℕ)) (r : Option Found). give all.selected (key_id all) (secret all) t r) (keys (codes "aws_session_token") refl) (region_found all some id selected keys service)

pub settings_given : (read : Result Sections FaultyLine) (profile : List ℕ) (env : List (List ℕ × List ℕ)) (id : Option (List ℕ)) (some : SelectedProfile) (result : Result Settings SettingsFault)
    → GivesSelected read profile setting_keys id some → GivesSettings (settings_in (kept_of some) env id) result → GivesSettings (settings_from read profile env id) result
settings_given (Err line) profile env id some result gives settings = absurd gives
settings_given (Ok all) profile env id some result gives settings =
    subst (λ (given : Result Selected RunFault). GivesSettings given result) (settings_alike (record { sections = all; selected = profile }) (kept_of some) env id gives.0 gives.1 gives.2) settings
