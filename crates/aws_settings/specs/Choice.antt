-- What there is to sign with: what the caller says comes first, then variables, then the profile, as the command line of AWS has it.
use Rattle.std.specs.Prelude.{◌≡◌, ℕ, Bool, if◌then◌else◌, List, [], ◌∷◌, codes, Option, Some, None, unwrap_or, option_map, IfSome, Result, Ok, Err, string_bytes}
use Rattle.std.specs.Option.{option_or}
use Rattle.smithy_core.specs.Identity.{access_key_id, secret_access_key, session_token}
use Rattle.smithy_core.specs.TextPairs.{last_value}
use Rattle.smithy_core.specs.declared.identity.Credentials.{Credentials}
use Rattle.env_config.specs.ParseFault.{faulty_line_of}
use Rattle.env_config.specs.Sections.{FaultyLine, Sections}
use Rattle.env_config.specs.Value.{Chosen, selected_value}
use Rattle.aws_settings.specs.declared.fault.SettingsFault.{SettingsFault}
use Rattle.aws_settings.specs.declared.fault.SettingsFault.TheVariants as fault
use Rattle.aws_settings.specs.declared.profile.ProfileValues.{ProfileValues}
use Rattle.aws_settings.specs.declared.settings.AwsSettings.{AwsSettings}

-- why there is nothing to sign with
pub data Lack : Type 0 where
  -- a line of a profile file is outside the grammar
  faulty : FaultyLine → Lack
  -- no variable counts, and the profile of this name has no key id or no secret
  no_key : List ℕ → Lack
  -- the variable of the key id has a value and that of the secret doesn't
  no_secret : Lack
  -- no place has a region, and not the profile of this name
  no_region : List ℕ → Lack

-- ## The profile

-- what a profile has to sign with
pub record Profile : Type 0 where
  pub name : List ℕ
  pub key_id : Option (List ℕ)
  pub secret : Option (List ℕ)
  pub token : Option (List ℕ)
  pub region : Option (List ℕ)

-- what the selected profile, whose name this is, has among these sections
abbrev pub profile_in : List ℕ → Chosen → Profile
profile_in name chosen = record {
  name = name;
  key_id = selected_value chosen (codes "aws_access_key_id");
  secret = selected_value chosen (codes "aws_secret_access_key");
  token = selected_value chosen (codes "aws_session_token");
  region = selected_value chosen (codes "region");
}

-- what the profile of this name has, or the first faulty line
abbrev pub profile_of : Result Sections FaultyLine → List ℕ → Result Profile Lack
profile_of (Ok sections) name = Ok (profile_in name (record { sections = sections; selected = name }))
profile_of (Err line) name = Err (faulty line)

-- what contracts see of the values of a profile
abbrev pub profile_values : ProfileValues → Profile
profile_values values = record {
  name = string_bytes values.name;
  key_id = option_map string_bytes values.key_id;
  secret = option_map string_bytes values.secret;
  token = option_map string_bytes values.token;
  region = option_map string_bytes values.region;
}

-- ## The order of the sources

-- an empty text counts as none
abbrev pub filled : Option (List ℕ) → Option (List ℕ)
filled None = None
filled (Some []) = None
filled (Some (byte ∷ text)) = Some (byte ∷ text)

-- a variable; an empty one counts as unset
abbrev pub variable : List (List ℕ × List ℕ) → List ℕ → Option (List ℕ)
variable env name = filled (last_value env name)

-- the name of the profile: the caller's, that of the variable `AWS_PROFILE`, or `default`
abbrev pub profile_name : Option (List ℕ) → List (List ℕ × List ℕ) → List ℕ
profile_name named env = unwrap_or (option_or named (variable env (codes "AWS_PROFILE"))) (codes "default")

-- the region: the caller's, that of the variables `AWS_REGION` and `AWS_DEFAULT_REGION`, or the profile's
abbrev pub region_by : Option (List ℕ) → List (List ℕ × List ℕ) → Profile → Option (List ℕ)
region_by region env profile =
    option_or (option_or (option_or region (variable env (codes "AWS_REGION"))) (variable env (codes "AWS_DEFAULT_REGION"))) (filled profile.region)

-- a key: its id, its secret, and the token where there is one
pub record ChosenKey : Type 0 where
  pub id : List ℕ
  pub secret : List ℕ
  pub token : Option (List ℕ)

-- the key of these parts, where the two that it takes are there
abbrev pub key_with : Option (List ℕ) → Option (List ℕ) → Option (List ℕ) → Option ChosenKey
key_with (Some id) (Some secret) token = Some (record { id = id; secret = secret; token = token })
key_with (Some id) None token = None
key_with None secret token = None

-- the key, or why there is none
abbrev pub key_or : Lack → Option ChosenKey → Result ChosenKey Lack
key_or lack (Some key) = Ok key
key_or lack None = Err lack

-- the key of the variables, whose id this is
abbrev pub variables_key : List ℕ → List (List ℕ × List ℕ) → Result ChosenKey Lack
variables_key id env = key_or no_secret (key_with (Some id) (variable env (codes "AWS_SECRET_ACCESS_KEY")) (variable env (codes "AWS_SESSION_TOKEN")))

-- the key of a profile
abbrev pub profile_key : Profile → Result ChosenKey Lack
profile_key profile = key_or (no_key profile.name) (key_with (filled profile.key_id) (filled profile.secret) (filled profile.token))

-- the variable of the key id, which counts unless the caller named the profile
abbrev pub variable_key : Bool → List (List ℕ × List ℕ) → Option (List ℕ)
variable_key names_profile env = if names_profile then None else variable env (codes "AWS_ACCESS_KEY_ID")

-- the key whose id is this variable's, and else that of the profile
abbrev pub key_behind : List (List ℕ × List ℕ) → Profile → Option (List ℕ) → Result ChosenKey Lack
key_behind env profile (Some id) = variables_key id env
key_behind env profile None = profile_key profile

-- the key: that of the variables, or that of the profile
abbrev pub chosen_key : Bool → List (List ℕ × List ℕ) → Profile → Result ChosenKey Lack
chosen_key names_profile env profile = key_behind env profile (variable_key names_profile env)

-- ## The settings

-- what there is to sign with
pub record ChosenSettings : Type 0 where
  pub key : ChosenKey
  pub region : List ℕ

-- the settings where both are there; the key is missed first
abbrev pub settings_of_parts : List ℕ → Result ChosenKey Lack → Option (List ℕ) → Result ChosenSettings Lack
settings_of_parts name (Err lack) region = Err lack
settings_of_parts name (Ok key) None = Err (no_region name)
settings_of_parts name (Ok key) (Some region) = Ok (record { key = key; region = region })

-- the settings by whether the caller named the profile, by the caller's region, by variables and by a profile
unfoldable pub chosen_settings : Bool → Option (List ℕ) → List (List ℕ × List ℕ) → Profile → Result ChosenSettings Lack
chosen_settings names_profile region env profile = settings_of_parts profile.name (chosen_key names_profile env profile) (region_by region env profile)

-- the same where the profile is still to be read
abbrev pub choice_by : Bool → Option (List ℕ) → List (List ℕ × List ℕ) → Result Profile Lack → Result ChosenSettings Lack
choice_by names_profile region env (Ok profile) = chosen_settings names_profile region env profile
choice_by names_profile region env (Err lack) = Err lack

-- ## Answers

-- what contracts see of a fault: why there are no settings, or none where memory ran out
abbrev pub lack_in : SettingsFault → Option Lack
lack_in (fault.Profile error) = Some (faulty (faulty_line_of error))
lack_in (fault.MissingKey profile) = Some (no_key (string_bytes profile))
lack_in fault.MissingSecret = Some no_secret
lack_in (fault.MissingRegion profile) = Some (no_region (string_bytes profile))
lack_in fault.NoMemory = None

-- this is why there are no settings, or memory ran out
abbrev pub IsLackOf : {A : Type 0} → Result A Lack → SettingsFault → Type 0
IsLackOf planned fault = IfSome (lack_in fault) (λ lack. planned ≡ Err lack)

-- what contracts see of a key
abbrev pub key_in : Credentials → ChosenKey
key_in credentials = record { id = access_key_id credentials; secret = secret_access_key credentials; token = session_token credentials }

-- what contracts see of settings
abbrev pub settings_seen : AwsSettings → ChosenSettings
settings_seen settings = record { key = key_in settings.credentials; region = string_bytes settings.region }

-- these are the values of the profile, or this is why there are none
abbrev pub GivesProfile : Result Profile Lack → Result ProfileValues SettingsFault → Type 0
GivesProfile planned (Ok values) = planned ≡ Ok (profile_values values)
GivesProfile planned (Err fault) = IsLackOf planned fault

-- this is the key, or why there is none
abbrev pub GivesChosenKey : Result ChosenKey Lack → Result Credentials SettingsFault → Type 0
GivesChosenKey planned (Ok credentials) = planned ≡ Ok (key_in credentials)
GivesChosenKey planned (Err fault) = IsLackOf planned fault

-- these are the settings, or this is why there are none
abbrev pub GivesChosen : Result ChosenSettings Lack → Result AwsSettings SettingsFault → Type 0
GivesChosen planned (Ok settings) = planned ≡ Ok (settings_seen settings)
GivesChosen planned (Err fault) = IsLackOf planned fault
