-- The values of a profile's keys in a file: of those that the sections with its heading have, the one whose section came first last.
use Rattle.std.specs.Prelude.{ℕ, Bool, false, ◌||◌, nat_lt, List, [], length, map, codes, Option, Some, None, is_some, option_map, if◌then◌else◌}
use Rattle.env_config.specs.declared.heading.HeadingForm.{HeadingForm}
use Rattle.env_config.specs.declared.heading.HeadingForm.TheVariants.{Bare, Prefixed}
use Rattle.env_config.specs.declared.source.EnvConfigFileKind.{EnvConfigFileKind}
use Rattle.env_config.specs.Kept.{has_heading}
use Rattle.env_config.specs.Sections.{Heading, heading_of, is_profile_default, is_taken_from}
use Rattle.env_config.specs.Texts.{put, value_under}

-- the places of sections by the texts between their brackets, in the order of their first appearance; under each key its value in the
-- sections without prefix, and in those with one, with the place of its section; and whether `[profile default]` is there
pub record Latest : Type 0 where
  pub places : List (List ℕ × ℕ)
  pub bare : List (List ℕ × (ℕ × List ℕ))
  pub prefixed : List (List ℕ × (ℕ × List ℕ))
  pub overridden : Bool

abbrev pub no_latest : Latest
no_latest = record { places = []; bare = []; prefixed = []; overridden = false }

-- the values in the sections with a prefix, or in those without
abbrev pub values_in : Latest → HeadingForm → List (List ℕ × (ℕ × List ℕ))
values_in latest Prefixed = latest.prefixed
values_in latest Bare = latest.bare

-- a section has its place; a new one comes last
abbrev pub with_place : Latest → List ℕ → Latest
with_place latest name =
    if is_some (value_under latest.places name) then latest
    else record latest { places = put latest.places name (length latest.places); overridden = latest.overridden || is_profile_default (heading_of name).prefix (heading_of name).name }

-- a later section has a value
abbrev pub is_beaten : Option (ℕ × List ℕ) → ℕ → Bool
is_beaten None place = false
is_beaten (Some before) place = nat_lt place before.0

-- the value stands at the key, where no later section has one
abbrev pub put_placed : List (List ℕ × (ℕ × List ℕ)) → ℕ → List ℕ → List ℕ → List (List ℕ × (ℕ × List ℕ))
put_placed values place key value = if is_beaten (value_under values key) place then values else put values key (place, value)

abbrev pub put_latest : Latest → HeadingForm → ℕ → List ℕ → List ℕ → Latest
put_latest latest Prefixed place key value = record latest { prefixed = put_placed latest.prefixed place key value }
put_latest latest Bare place key value = record latest { bare = put_placed latest.bare place key value }

-- whether there is a prefix
abbrev pub form_of : Option (List ℕ) → HeadingForm
form_of None = Bare
form_of (Some prefix) = Prefixed

-- the form of a section's heading, where it is one of the profile
abbrev pub group_of : List ℕ → Heading → Option HeadingForm
group_of profile heading = if has_heading (codes "profile") profile heading then Some (form_of heading.prefix) else None

-- which sections of the profile are taken from a file
abbrev pub group_taken : EnvConfigFileKind → Bool → List ℕ → Option HeadingForm
group_taken kind overridden profile =
    if is_taken_from kind overridden None profile then Some Bare
    else if is_taken_from kind overridden (Some (codes "profile")) profile then Some Prefixed
    else None

-- the values without the places of their sections
abbrev pub without_places : List (List ℕ × (ℕ × List ℕ)) → List (List ℕ × List ℕ)
without_places values = map (λ e. (e.0, e.1.1)) values

-- the values of the profile that are taken from a file
abbrev pub taken_values : Latest → EnvConfigFileKind → List ℕ → Option (List (List ℕ × List ℕ))
taken_values latest kind profile = option_map (λ group. without_places (values_in latest group)) (group_taken kind latest.overridden profile)
