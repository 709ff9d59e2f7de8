-- What the selected profile and the variables give to sign with.
use Rattle.std.specs.Prelude.{◌≡◌, ℕ, List, codes, string_bytes, Option, Some, None, option_map, Result, Ok, Err}
use Rattle.smithy_core.specs.Identity.{access_key_id, secret_access_key, session_token}
use Rattle.env_config.specs.ParseFault.{faulty_line_of, parse_error_text}
use Rattle.env_config.specs.Sections.{FaultyLine, FileText, Sections, sections}
use Rattle.env_config.specs.Value.{Asked, Chosen, selected_value, value}
use Rattle.env_config.specs.declared.parse_fault.ParseFault.{ParseFault}
use Rattle.env_config.specs.declared.parse_fault.ParseFault.TheVariants.{Parse, NoMemory as ParsedNoMemory}
use Rattle.signed_stream.specs.Status.{RunFault, missing_credentials, missing_signing_region, parse_error}
use Rattle.signed_stream.specs.declared.settings.Settings.{Settings}
use Rattle.signed_stream.specs.declared.settings.SettingsFault.{SettingsFault}
use Rattle.signed_stream.specs.declared.settings.SettingsFault.TheVariants.{ParseError, MissingCredentials, MissingSigningRegion, NoMemory}

-- the selected profile and what it gives to sign with: a key id, a secret, the token where there is one, and a region
pub record Selected : Type 0 where
  pub profile : List ℕ
  pub key_id : List ℕ
  pub secret : List ℕ
  pub token : Option (List ℕ)
  pub region : List ℕ

-- what is asked for the region: the variable, the key, and the service where it is named
abbrev pub asked_region : Option (List ℕ) → Asked
asked_region service_id = record { env = Some (codes "AWS_REGION"); profile = Some (codes "region"); service_id = service_id }

-- the region: the service's own variable, `AWS_REGION`, the service's own sub-property, `region`, the first that is there
abbrev pub region_in : Chosen → List (List ℕ × List ℕ) → Option (List ℕ) → Option (List ℕ)
region_in chosen env service_id = option_map (λ found. found.value) (value env (Some chosen) (asked_region service_id))

-- the key id and the secret are needed, and then the region; an empty value counts as given
abbrev pub selected_or_missing : List ℕ → Option (List ℕ) → Option (List ℕ) → Option (List ℕ) → Option (List ℕ) → Result Selected RunFault
selected_or_missing profile (Some key_id) (Some secret) token (Some region) =
    Ok (record { profile = profile; key_id = key_id; secret = secret; token = token; region = region })
selected_or_missing profile (Some key_id) (Some secret) token None = Err missing_signing_region
selected_or_missing profile (Some key_id) None token region = Err missing_credentials
selected_or_missing profile None secret token region = Err missing_credentials

-- what the sections give; credentials come from the selected profile alone
abbrev pub settings_in : Chosen → List (List ℕ × List ℕ) → Option (List ℕ) → Result Selected RunFault
settings_in chosen env service_id =
    selected_or_missing chosen.selected (selected_value chosen (codes "aws_access_key_id")) (selected_value chosen (codes "aws_secret_access_key"))
    (selected_value chosen (codes "aws_session_token")) (region_in chosen env service_id)

-- what the merged sections give under the selected profile's name, or the first faulty line
abbrev pub settings_from : Result Sections FaultyLine → List ℕ → List (List ℕ × List ℕ) → Option (List ℕ) → Result Selected RunFault
settings_from (Ok sections) profile env service_id = settings_in (record { sections = sections; selected = profile }) env service_id
settings_from (Err line) profile env service_id = Err (parse_error line)

-- what the files give under the selected profile's name, with the variables and the id of the service
unfoldable pub settings : List FileText → List ℕ → List (List ℕ × List ℕ) → Option (List ℕ) → Result Selected RunFault
settings files profile env service_id = settings_from (sections files) profile env service_id

-- ## Answers

-- what contracts see of settings
abbrev pub selected_in : Settings → Selected
selected_in settings = record {
  profile = string_bytes settings.profile;
  key_id = access_key_id settings.credentials;
  secret = secret_access_key settings.credentials;
  token = session_token settings.credentials;
  region = settings.region;
}

-- the settings are the ones that are read, or the fault says why there are none; or memory ran out
abbrev pub GivesSettings : Result Selected RunFault → Result Settings SettingsFault → Type 0
GivesSettings read (Ok settings) = read ≡ Ok (selected_in settings)
GivesSettings read (Err (ParseError error)) = read ≡ Err (parse_error (faulty_line_of error))
GivesSettings read (Err MissingCredentials) = read ≡ Err missing_credentials
GivesSettings read (Err MissingSigningRegion) = read ≡ Err missing_signing_region
GivesSettings read (Err NoMemory) = Unit {0}

-- the fault of texts that give no sections
abbrev pub settings_fault : ParseFault → SettingsFault
settings_fault (Parse error) = ParseError error
settings_fault ParsedNoMemory = NoMemory

-- an equal fault, with an equal line
abbrev pub IsSameSettingsFault : SettingsFault → SettingsFault → Type 0
IsSameSettingsFault (ParseError error) (ParseError copy) = faulty_line_of copy ≡ faulty_line_of error
IsSameSettingsFault (ParseError error) copy = ⊥
IsSameSettingsFault fault copy = copy ≡ fault

-- what a fault is printed as
abbrev pub settings_fault_text : SettingsFault → List ℕ
settings_fault_text (ParseError error) = parse_error_text error
settings_fault_text MissingCredentials = codes "missing credentials"
settings_fault_text MissingSigningRegion = codes "missing signing region"
settings_fault_text NoMemory = codes "no memory"
