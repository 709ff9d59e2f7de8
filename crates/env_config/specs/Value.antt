-- A value by the order of precedence: four places, the first that holds one.
use Rattle.std.specs.Prelude.{ℕ, ◌==◌, List, [], ◌∷◌, ◌++◌, map, codes, Option, Some, option_map, if◌then◌else◌}
use Rattle.std.specs.Char.{to_ascii_lowercase, to_ascii_uppercase}
use Rattle.std.specs.Option.{option_and_then, option_or}
use Rattle.smithy_core.specs.Text.{space}
use Rattle.smithy_core.specs.TextPairs.{last_value, lower}
use Rattle.env_config.specs.Sections.{Key, Sections, value_at_key}
use Rattle.env_config.specs.Texts.{value_under}

-- ## Where a value comes from

-- for all services, or for the one of this id
pub data Reach : Type 0 where
  Shared : Reach
  Own : List ℕ → Reach

-- among the variables, or in the profile of this name
pub data Holder : Type 0 where
  Variables : Holder
  InProfile : List ℕ → Holder

-- the key of a value, what holds it and for whom
pub record FoundAt : Type 0 where
  pub key : List ℕ
  pub holder : Holder
  pub reach : Reach

-- a value, and where it was found
pub record Found : Type 0 where
  pub value : List ℕ
  pub at : FoundAt

-- what is asked for: the variable, the key and the service, each where it is named
pub record Asked : Type 0 where
  pub env : Option (List ℕ)
  pub profile : Option (List ℕ)
  pub service_id : Option (List ℕ)

-- the merged sections, and the name of the selected profile
pub record Chosen : Type 0 where
  pub sections : Sections
  pub selected : List ℕ

-- ## The names of a service

-- another text in place of each space
abbrev pub with_spaces_as : List ℕ → List ℕ → List ℕ
with_spaces_as sign [] = []
with_spaces_as sign (b ∷ id) = if b == space then sign ++ with_spaces_as sign id else b ∷ with_spaces_as sign id

-- in upper case, with `_` for a space
abbrev pub id_in_variables : List ℕ → List ℕ
id_in_variables id = map to_ascii_uppercase (with_spaces_as (codes "_") id)

-- in lower case, with `-` for a space
abbrev pub id_in_sections : List ℕ → List ℕ
id_in_sections id = map to_ascii_lowercase (with_spaces_as (codes "-") id)

-- ## The four places

abbrev pub found_as : List ℕ → Holder → Reach → Option (List ℕ) → Option Found
found_as key holder reach value = option_map (λ value. record { value = value; at = record { key = key; holder = holder; reach = reach } }) value

-- the variable of the service
abbrev pub service_key : List ℕ → List ℕ → List ℕ
service_key key id = key ++ (codes "_" ++ id_in_variables id)

abbrev pub service_variable : List (List ℕ × List ℕ) → List ℕ → List ℕ → Option Found
service_variable env id key = found_as (service_key key id) Variables (Own id) (last_value env (service_key key id))

-- the variable itself
abbrev pub shared_variable : List (List ℕ × List ℕ) → List ℕ → Option Found
shared_variable env key = found_as key Variables Shared (last_value env key)

-- the value of a key of the selected profile, in whatever case the key is given
abbrev pub selected_value : Chosen → List ℕ → Option (List ℕ)
selected_value chosen key = option_and_then (λ profile. value_under profile.properties (lower key)) (value_under chosen.sections.profiles.values chosen.selected)

-- the sub-property of the services section that the selected profile names
abbrev pub service_sub : List ℕ → List ℕ → List ℕ → Key
service_sub services id key = record { section_key = codes "services"; section_name = services; property_name = id_in_sections id; sub_property_name = Some key }

abbrev pub in_services : Chosen → List ℕ → List ℕ → Option (List ℕ)
in_services chosen id key = option_and_then (λ services. value_at_key chosen.sections.others (service_sub services id key)) (selected_value chosen (codes "services"))

abbrev pub service_property : Chosen → List ℕ → List ℕ → Option Found
service_property chosen id key = found_as key (InProfile chosen.selected) (Own id) (in_services chosen id key)

-- the property of the selected profile
abbrev pub shared_property : Chosen → List ℕ → Option Found
shared_property chosen key = found_as key (InProfile chosen.selected) Shared (selected_value chosen key)

abbrev pub in_variables : List (List ℕ × List ℕ) → Option (List ℕ) → List ℕ → Option Found
in_variables env id key = option_or (option_and_then (λ id. service_variable env id key) id) (shared_variable env key)

abbrev pub in_profile : Chosen → Option (List ℕ) → List ℕ → Option Found
in_profile chosen id key = option_or (option_and_then (λ id. service_property chosen id key) id) (shared_property chosen key)

abbrev pub in_sections : Option Chosen → Option (List ℕ) → List ℕ → Option Found
in_sections chosen id key = option_and_then (λ chosen. in_profile chosen id key) chosen

-- the variable of the service, the variable, the sub-property of the service, the property: the first that holds a value
unfoldable pub value : List (List ℕ × List ℕ) → Option Chosen → Asked → Option Found
value env chosen asked =
    option_or (option_and_then (λ key. in_variables env asked.service_id key) asked.env) (option_and_then (λ key. in_sections chosen asked.service_id key) asked.profile)

-- ## Texts

abbrev pub reach_text : Reach → List ℕ
reach_text Shared = codes "global"
reach_text (Own id) = codes "service-specific (`" ++ (id ++ codes "`)")

abbrev pub holder_text : Holder → List ℕ
holder_text Variables = codes "environment variable"
holder_text (InProfile name) = codes "profile (`" ++ (name ++ codes "`)")

abbrev pub found_text : FoundAt → List ℕ
found_text at = reach_text at.reach ++ (codes " " ++ (holder_text at.holder ++ (codes " key: `" ++ (at.key ++ codes "`"))))
