-- What the sink for a profile stands for: the values that the sections so far give.
use Rattle.std.specs.Prelude.{◌≡◌, ◌<◌, ℕ, Bool, true, false, List, [], ◌∷◌, length, Option, Some, None, is_some, unwrap_or, option_map, if◌then◌else◌, Result, Ok, Err}
use Rattle.std.specs.List.{AllByRecursion, list_any}
use Rattle.std.specs.Option.{option_or}
use Rattle.std.specs.Ordering.{is_eq}
use Rattle.env_config.specs.declared.fault.RawFault.{RawFault}
use Rattle.env_config.specs.declared.fault.RawFault.TheVariants as faults
use Rattle.env_config.specs.declared.heading.HeadingForm.{HeadingForm}
use Rattle.env_config.specs.declared.heading.HeadingForm.TheVariants.{Bare, Prefixed}
use Rattle.env_config.specs.declared.profile_sink.ProfileSink.{ProfileSink}
use Rattle.env_config.specs.Fault.{flaw_message}
use Rattle.env_config.specs.Latest.{Latest, group_of, values_in}
use Rattle.env_config.specs.Order.{IsRising}
use Rattle.env_config.specs.Raw.{properties_of}
use Rattle.env_config.specs.Sections.{has_profile_default, heading_of}
use Rattle.env_config.specs.Texts.{Named, text_cmp, value_under}

-- ## Values

-- the value that the last of the names has, and its place
abbrev pub latest_of : (List ℕ → ℕ) → (List ℕ → Option (List ℕ)) → List (List ℕ) → Option (ℕ × List ℕ)
latest_of place value [] = None
latest_of place value (name ∷ names) = option_or (latest_of place value names) (option_map (λ v. (place name, v)) (value name))

-- the places rise
abbrev pub IsInOrder : (List ℕ → ℕ) → List (List ℕ) → Type 0
IsInOrder place [] = Unit {0}
IsInOrder place (name ∷ names) = AllByRecursion (λ other. place name < place other) names × IsInOrder place names

-- the section has a heading of this form
abbrev pub is_in : HeadingForm → Option HeadingForm → Bool
is_in form None = false
is_in Bare (Some Bare) = true
is_in Bare (Some Prefixed) = false
is_in Prefixed (Some Bare) = false
is_in Prefixed (Some Prefixed) = true

-- the value of a key in a section, where that is one of the profile with a prefix, or one without
abbrev pub value_in_group : List ℕ → Named (List (List ℕ × List ℕ)) → HeadingForm → List ℕ → List ℕ → Option (List ℕ)
value_in_group profile sections group key name = if is_in group (group_of profile (heading_of name)) then value_under (properties_of sections name) key else None

-- the place of a section
abbrev pub place_in : Latest → List ℕ → ℕ
place_in latest name = unwrap_or (value_under latest.places name) 0

abbrev pub is_among : List ℕ → List (List ℕ) → Bool
is_among name names = list_any (λ other. is_eq (text_cmp name other)) names

-- the values are those that the sections give
pub record IsLatest (profile : List ℕ) (sections : Named (List (List ℕ × List ℕ))) (latest : Latest) : Type 0 where
  pub known : (name : List ℕ) → is_some (value_under latest.places name) ≡ is_some (value_under sections.values name)
  pub among : (name : List ℕ) → is_some (value_under latest.places name) ≡ is_among name sections.names
  pub in_order : IsInOrder (place_in latest) sections.names
  pub listed : AllByRecursion (λ name. (is_some (value_under latest.places name) ≡ true) × (place_in latest name < length latest.places)) sections.names
  pub overridden : latest.overridden ≡ has_profile_default sections.names
  pub pairs : (name : List ℕ) → IsRising (properties_of sections name)
  pub rising : (group : HeadingForm) → IsRising (values_in latest group)
  pub values : (group : HeadingForm) (key : List ℕ) → value_under (values_in latest group) key ≡ latest_of (place_in latest) (value_in_group profile sections group key) sections.names

-- ## The sink

-- where the section stands that is open, and whether it has a prefix
abbrev pub IsPlaced : List ℕ → ProfileSink → Option (List ℕ) → Type 0
IsPlaced profile sink None = Unit {0}
IsPlaced profile sink (Some name) = (sink.group ≡ group_of profile (heading_of name)) × (value_under sink.latest.places name ≡ Some sink.place)

-- the section that is open, and the values that all sections give
pub record StandsForProfile (sink : ProfileSink) (profile : List ℕ) (at : Option (List ℕ)) (sections : Named (List (List ℕ × List ℕ))) : Type 0 where
  pub asked : sink.profile.now ≡ profile
  pub placed : IsPlaced profile sink at
  pub latest : IsLatest profile sections sink.latest

-- the values that the raw sections give, or the number and the message of the first faulty line; running out of memory says nothing
abbrev pub ReadsLatest : List ℕ → Result (Named (List (List ℕ × List ℕ))) (ℕ × List ℕ) → Result Latest RawFault → Type 0
ReadsLatest profile read (Err (faults.Line number flaw)) = read ≡ Err (number, flaw_message flaw)
ReadsLatest profile read (Err faults.NoMemory) = Unit {0}
ReadsLatest profile (Ok sections) (Ok latest) = IsLatest profile sections latest
ReadsLatest profile (Err fault) (Ok latest) = ⊥
