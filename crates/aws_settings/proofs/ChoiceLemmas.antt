-- Where there is no profile or no key there are no settings.
use Rattle.std.proofs.Common.{◌≡◌, ℕ, Bool, List, Option, refl}
use Rattle.std.specs.Prelude.{Result, Err}
use Rattle.aws_settings.specs.Choice.{IsLackOf, ChosenKey, Lack, Profile, choice_by, settings_of_parts}
use Rattle.aws_settings.specs.declared.fault.SettingsFault.{SettingsFault}
use Rattle.aws_settings.specs.declared.fault.SettingsFault.TheVariants as fault

-- what lacks stays what lacks
lack_stays : {A B : Type 0} (planned : Result A Lack) (whole : Result B Lack) (fault : SettingsFault) → ((lack : Lack) → planned ≡ Err lack → whole ≡ Err lack) → IsLackOf planned fault
    → IsLackOf whole fault
lack_stays planned whole (fault.Profile error) stays is = stays _ is
lack_stays planned whole (fault.MissingKey profile) stays is = stays _ is
lack_stays planned whole fault.MissingSecret stays is = stays _ is
lack_stays planned whole (fault.MissingRegion profile) stays is = stays _ is
lack_stays planned whole fault.NoMemory stays is = tt

pub no_settings : (name : List ℕ) (planned : Result ChosenKey Lack) (region : Option (List ℕ)) (fault : SettingsFault) → IsLackOf planned fault → IsLackOf (settings_of_parts name planned region) fault
no_settings name planned region fault is = lack_stays planned (settings_of_parts name planned region) fault (λ lack lacks. rw lacks refl) is

pub nothing_without : (names_profile : Bool) (region : Option (List ℕ)) (env : List (List ℕ × List ℕ)) (profile : Result Profile Lack) (fault : SettingsFault) → IsLackOf profile fault
    → IsLackOf (choice_by names_profile region env profile) fault
nothing_without names_profile region env profile fault is = lack_stays profile (choice_by names_profile region env profile) fault (λ lack lacks. rw lacks refl) is
