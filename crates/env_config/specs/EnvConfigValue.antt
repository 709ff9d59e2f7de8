-- What is asked for and found in the words of the definitions, and what the calls that find a value answer.
use Rattle.std.specs.Prelude.{◌≡◌, ℕ, List, Option, Some, None, option_map, String, string_bytes, Result, Ok, Err}
use Rattle.std.specs.Option.{option_copied}
use Rattle.std.specs.Borrow.{Bor}
use Rattle.std.specs.declared.alloc.Global.{Global}
use Rattle.env_config.specs.EnvConfigSections.{sections_of, selected_of}
use Rattle.env_config.specs.Value.{Asked, Chosen, Found}
use Rattle.env_config.specs.ValueFault.{refused_at, why_refused}
use Rattle.env_config.specs.ValueSource.{found_at, origin_at}
use Rattle.env_config.specs.declared.sections.EnvConfigSections.{EnvConfigSections}
use Rattle.env_config.specs.declared.service_config.ServiceConfigKey.{ServiceConfigKey}
use Rattle.env_config.specs.declared.value.EnvConfigValue.{EnvConfigValue}
use Rattle.env_config.specs.declared.value_fault.ValidateFault.{ValidateFault}
use Rattle.env_config.specs.declared.value_fault.ValidateFault.TheVariants.{Invalid, NoMemory}
use Rattle.env_config.specs.declared.value_source.EnvConfigSource.{EnvConfigSource}
use Rattle.env_config.specs.declared.value_source.Origin.{Origin}
use Rattle.env_config.specs.declared.value_source.Origin.TheVariants.{Unknown}

-- what was found, as the definitions see it
abbrev pub found_of : String Global × EnvConfigSource → Found
found_of found = record { value = string_bytes found.0; at = found_at found.1 }

-- the sections, and the name of the selected profile
abbrev pub chosen_of : EnvConfigSections → Chosen
chosen_of sections = record { sections = sections_of sections; selected = selected_of sections }

-- the sections, where they are given
abbrev pub chosen_in : Option (Bor EnvConfigSections) → Option Chosen
chosen_in sections = option_map chosen_of (option_copied sections)

-- what is asked for: the variable, the key and the service
abbrev pub asked_of : EnvConfigValue → Asked
asked_of asked = record {
  env = option_copied asked.environment_variable;
  profile = option_copied asked.profile_key;
  service_id = option_copied asked.service_id;
}

-- the three texts of a key
abbrev pub asked_by : ServiceConfigKey → Asked
asked_by key = record { env = Some key.env.now; profile = Some key.profile.now; service_id = Some key.service_id.now }

-- the kind of place that a value was found in
abbrev pub origin_of : Option Found → Origin
origin_of None = Unknown
origin_of (Some found) = origin_at found.at.reach found.at.holder

-- ## Answers

-- nothing where nothing was found, and else what the validator answered for the value that was found: its value, or its fault with the place
abbrev pub Validates : {T E : Type 0} → (List ℕ → Result T E → Type 0) → Option Found → Result (Option T) (ValidateFault E) → Type 0
Validates Answers None (Ok None) = Unit {0}
Validates Answers None (Ok (Some x)) = ⊥
Validates Answers (Some found) (Ok None) = ⊥
Validates Answers (Some found) (Ok (Some x)) = Answers found.value (Ok x)
Validates Answers None (Err (Invalid error)) = ⊥
Validates Answers (Some found) (Err (Invalid error)) = Answers found.value (Err (why_refused error)) × (refused_at error ≡ found.at)
Validates Answers found (Err NoMemory) = Unit {0}

-- what was validated, with the kind of place that the value was found in
abbrev pub ValidatesAt : {T E : Type 0} → (List ℕ → Result T E → Type 0) → Option Found → Result (Option T × Origin) (ValidateFault E) → Type 0
ValidatesAt Answers found (Ok pair) = Validates Answers found (Ok pair.0) × (pair.1 ≡ origin_of found)
ValidatesAt Answers found (Err fault) = Validates Answers found (Err fault)
