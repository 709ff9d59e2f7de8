-- What some keys of the selected profile and a service need of the sections.
use Rattle.std.specs.Prelude.{◌≡◌, ℕ, true, List, ◌++◌, codes, Option, Some, None, Result, Ok, Err}
use Rattle.smithy_core.specs.TextPairs.{lower}
use Rattle.env_config.specs.declared.parse_fault.ParseFault.{ParseFault}
use Rattle.env_config.specs.declared.parse_fault.ParseFault.TheVariants.{Parse, NoMemory}
use Rattle.env_config.specs.declared.properties.Properties.{Properties}
use Rattle.env_config.specs.declared.selected_profile.SelectedProfile.{SelectedProfile}
use Rattle.env_config.specs.EnvConfigValue.{chosen_of}
use Rattle.env_config.specs.Kept.{is_kept_key, is_kept_sub}
use Rattle.env_config.specs.ParseFault.{faulty_line_of}
use Rattle.env_config.specs.Properties.{others_of}
use Rattle.env_config.specs.Sections.{FaultyLine, Sections, value_at_key}
use Rattle.env_config.specs.Value.{Chosen, in_services, selected_value, service_sub}

-- the selected profile has the value that it has among all sections, at each of these keys and at `services`
abbrev pub HasSelectedKeys : List (List ℕ) → Chosen → Chosen → Type 0
HasSelectedKeys keys all some = (key : List ℕ) → is_kept_key keys (lower key) ≡ true → selected_value some key ≡ selected_value all key

-- the service, where there is one, has the values of its own that it has among all sections, at each of these keys as it is spelled
abbrev pub HasService : List (List ℕ) → Option (List ℕ) → Chosen → Chosen → Type 0
HasService keys None all some = Unit {0}
HasService keys (Some id) all some = (key : List ℕ) → is_kept_sub keys key ≡ true → in_services some id key ≡ in_services all id key

-- the part of the sections that is kept, and the name of the profile
abbrev pub kept_of : SelectedProfile → Chosen
kept_of profile = chosen_of profile.sections

-- what is shown to one who debugs: the name of the profile
abbrev pub selected_shown : List ℕ → List ℕ
selected_shown name = codes "SelectedProfile(" ++ (name ++ codes ")")

-- ## Answers

abbrev pub GivesSelected : Result Sections FaultyLine → List ℕ → List (List ℕ) → Option (List ℕ) → SelectedProfile → Type 0
GivesSelected (Err line) profile keys id some = ⊥
GivesSelected (Ok all) profile keys id some =
    ((kept_of some).selected ≡ profile) × HasSelectedKeys keys (record { sections = all; selected = profile }) (kept_of some) × HasService keys id (record { sections = all; selected = profile }) (kept_of some)

-- a profile that gives what all sections give of the keys and the service, or the first faulty line
abbrev pub ParsesSelected : Result Sections FaultyLine → List ℕ → List (List ℕ) → Option (List ℕ) → Result SelectedProfile ParseFault → Type 0
ParsesSelected read profile keys id (Ok some) = GivesSelected read profile keys id some
ParsesSelected read profile keys id (Err (Parse error)) = read ≡ Err (faulty_line_of error)
ParsesSelected read profile keys id (Err NoMemory) = Unit {0}

abbrev pub GivesService : Result Sections FaultyLine → List ℕ → List (List ℕ) → List ℕ → Properties → Type 0
GivesService (Err line) services keys id others = ⊥
GivesService (Ok all) services keys id others = (key : List ℕ) → is_kept_sub keys key ≡ true → value_at_key (others_of others) (service_sub services id key) ≡ value_at_key all.others (service_sub services id key)

-- the service's values of a services section at these keys, as all sections give them, or the first faulty line
abbrev pub ParsesService : Result Sections FaultyLine → List ℕ → List (List ℕ) → List ℕ → Result Properties ParseFault → Type 0
ParsesService read services keys id (Ok others) = GivesService read services keys id others
ParsesService read services keys id (Err (Parse error)) = read ≡ Err (faulty_line_of error)
ParsesService read services keys id (Err NoMemory) = Unit {0}
