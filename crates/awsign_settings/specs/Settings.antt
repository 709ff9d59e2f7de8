-- Which settings are used, and where each came from: options first, then variables, then the profile files, of which a later one wins.
use Rattle.std.specs.Prelude.{ℕ, ◌==◌, Bool, true, false, if◌then◌else◌, List, [], length, codes, fold, Option, Some, None, option_map, Result, Ok, Err, unwrap_or}
use Rattle.std.specs.Option.{option_or}
use Rattle.smithy_core.specs.TextPairs.{last_value}
use Rattle.env_config.specs.Sections.{FileText}
use Rattle.awsign_words.specs.Words.{OptionValues, has}
use Rattle.aws_settings.specs.Choice.{ChosenKey, ChosenSettings, Lack, key_or, key_with, no_key, no_secret, settings_of_parts}
use Rattle.awsign_run.specs.Chosen.{asked_profile}
use Rattle.awsign_settings.specs.Own.{Own, part_in}
use Rattle.awsign_settings.specs.ValueLine.{property_line}
use Rattle.awsign_settings.specs.declared.part.Part.{Part}
use Rattle.awsign_settings.specs.declared.part.Part.TheVariants.{KeyId, Secret, Token, Region}
use Rattle.awsign_settings.specs.declared.settings.KeySettings.{KeySettings}
use Rattle.awsign_settings.specs.declared.settings.Settings.{Settings}
use Rattle.awsign_settings.specs.declared.sourced.FoundIn.{FoundIn}
use Rattle.awsign_settings.specs.declared.sourced.FoundIn.TheVariants.{Named, File, Unnamed}
use Rattle.awsign_settings.specs.declared.sourced.Sourced.{Sourced}

-- ## Where a value comes from

-- an option or a variable of this name, the file at this path and the line in it, or nothing that names it
pub data Whence : Type 0 where
  by_name : List ℕ → Whence
  by_file : List ℕ → Option ℕ → Whence
  by_nothing : Whence

-- a value, and where it came from
pub record Used : Type 0 where
  pub value : List ℕ
  pub whence : Whence

-- an empty value counts as none
abbrev pub filled_use : Option Used → Option Used
filled_use None = None
filled_use (Some used) = if length used.value == 0 then None else Some used

-- the value of an option
abbrev pub from_option : OptionValues → List ℕ → Option Used
from_option options word = option_map (λ value. record { value = value; whence = by_name word }) (last_value options word)

-- a variable; an empty one counts as unset
abbrev pub from_variable : List (List ℕ × List ℕ) → List ℕ → Option Used
from_variable env name = filled_use (option_map (λ value. record { value = value; whence = by_name name }) (last_value env name))

-- a part of the profile in a file, with that file
abbrev pub part_of_own : Part → Own → Option (FileText × List ℕ)
part_of_own part own = option_map (λ value. (own.file, value)) (part_in part own.profile)

-- the same in the last file that has it
abbrev pub last_part : Part → List Own → Option (FileText × List ℕ)
last_part part owns = fold (λ found own. option_or (part_of_own part own) found) None owns

-- a part of the profile of this name in a file
abbrev pub use_in_file : List ℕ → Part → FileText × List ℕ → Used
use_in_file name part found = record { value = found.1; whence = by_file (unwrap_or found.0.path []) (property_line name found.0 part found.1) }

-- a part of the profile of this name in the last file that has it; an empty one counts as none
abbrev pub from_files : List ℕ → Part → List Own → Option Used
from_files name part owns = filled_use (option_map (use_in_file name part) (last_part part owns))

-- ## The settings

-- a key: whether it is that of the variables, its id, its secret, and its session token
pub record UsedKey : Type 0 where
  pub by_variables : Bool
  pub key_id : Option Used
  pub secret : Option Used
  pub token : Option Used

-- what a request is signed with
pub record UsedSettings : Type 0 where
  pub profile : Used
  pub key : UsedKey
  pub region : Option Used

-- the name of the profile: the option, the variable `AWS_PROFILE`, or `default`
abbrev pub used_profile : OptionValues → List (List ℕ × List ℕ) → Used
used_profile options env =
    unwrap_or (option_or (from_option options (codes "--profile")) (from_variable env (codes "AWS_PROFILE"))) (record { value = codes "default"; whence = by_nothing })

-- the region: the option, the variables `AWS_REGION` and `AWS_DEFAULT_REGION`, or the profile's
abbrev pub used_region : OptionValues → List (List ℕ × List ℕ) → List Own → Option Used
used_region options env owns =
    option_or (option_or (option_or (from_option options (codes "--region")) (from_variable env (codes "AWS_REGION"))) (from_variable env (codes "AWS_DEFAULT_REGION")))
    (from_files (asked_profile options env) Region owns)

-- the key whose id is this variable's, and else that of the profile
abbrev pub used_key_behind : List (List ℕ × List ℕ) → List ℕ → List Own → Option Used → UsedKey
used_key_behind env name owns (Some key_id) = record {
  by_variables = true;
  key_id = Some key_id;
  secret = from_variable env (codes "AWS_SECRET_ACCESS_KEY");
  token = from_variable env (codes "AWS_SESSION_TOKEN");
}
used_key_behind env name owns None = record {
  by_variables = false;
  key_id = from_files name KeyId owns;
  secret = from_files name Secret owns;
  token = from_files name Token owns;
}

-- the variable of the key id, which counts unless an option names a profile
abbrev pub used_variable_key : OptionValues → List (List ℕ × List ℕ) → Option Used
used_variable_key options env = if has options (codes "--profile") then None else from_variable env (codes "AWS_ACCESS_KEY_ID")

-- the key: that of the variables, or that of the profile
abbrev pub used_key : OptionValues → List (List ℕ × List ℕ) → List Own → UsedKey
used_key options env owns = used_key_behind env (asked_profile options env) owns (used_variable_key options env)

-- what a request is signed with, by options, variables and what each profile file has by itself
unfoldable pub used_settings : OptionValues → List (List ℕ × List ℕ) → List Own → UsedSettings
used_settings options env owns = record {
  profile = used_profile options env;
  key = used_key options env owns;
  region = used_region options env owns;
}

-- ## What there is to sign with

-- the value of a setting, where it has one
abbrev pub used_value : Option Used → Option (List ℕ)
used_value used = option_map (λ (used : Used). used.value) used

-- the key, or why there is none; the name is the profile's
abbrev pub key_of_parts : List ℕ → UsedKey → Result ChosenKey Lack
key_of_parts name key = key_or (if key.by_variables then no_secret else no_key name) (key_with (used_value key.key_id) (used_value key.secret) (used_value key.token))

-- what the settings give to sign with, or what lacks
abbrev pub given_choice : UsedSettings → Result ChosenSettings Lack
given_choice settings = settings_of_parts settings.profile.value (key_of_parts settings.profile.value settings.key) (used_value settings.region)

-- what lacks, in place of a choice
abbrev pub lack_of : Result ChosenSettings Lack → Option Lack
lack_of (Ok settings) = None
lack_of (Err lack) = Some lack

-- what the settings lack for a signature
abbrev pub settings_lack : UsedSettings → Option Lack
settings_lack settings = lack_of (given_choice settings)

-- ## Answers

-- what contracts see of where a value came from
abbrev pub whence_of : FoundIn → Whence
whence_of (Named name) = by_name name.now
whence_of (File path line) = by_file path.now line
whence_of Unnamed = by_nothing

-- what contracts see of a value with its origin
abbrev pub used_of : Sourced → Used
used_of sourced = record { value = sourced.value.now; whence = whence_of sourced.origin }

-- what contracts see of a key
abbrev pub used_key_of : KeySettings → UsedKey
used_key_of key = record {
  by_variables = key.by_variables;
  key_id = option_map used_of key.key_id;
  secret = option_map used_of key.secret;
  token = option_map used_of key.token;
}

-- what contracts see of the settings, with where each came from
abbrev pub used_settings_of : Settings → UsedSettings
used_settings_of settings = record {
  profile = used_of settings.profile;
  key = used_key_of settings.key;
  region = option_map used_of settings.region;
}
