-- What is kept of a text, for the values that are asked for.
use Rattle.std.specs.Prelude.{ℕ, Bool, true, ◌&&◌, ◌||◌, List, codes, bytes_eq, map, unwrap_or}
use Rattle.std.specs.List.{list_any}
use Rattle.smithy_core.specs.TextPairs.{lower}
use Rattle.env_config.specs.declared.kept.Kept.{Kept}
use Rattle.env_config.specs.declared.kept.Kept.TheVariants.{All, Profile, Services}
use Rattle.env_config.specs.Raw.{Keeps, everything}
use Rattle.env_config.specs.Sections.{Heading, heading_of, is_profile_default}

-- the key is one of these in lower case, or `services`
abbrev pub is_kept_key : List (List ℕ) → List ℕ → Bool
is_kept_key keys key = bytes_eq key (codes "services") || list_any (λ k. bytes_eq key (lower k)) keys

-- the section has the prefix and the name; one without prefix is a profile
abbrev pub has_heading : List ℕ → List ℕ → Heading → Bool
has_heading prefix name heading = bytes_eq (unwrap_or heading.prefix (codes "profile")) prefix && bytes_eq heading.name name

-- the section is of the profile, or it is `[profile default]`, which tells whether `[default]` is taken
abbrev pub is_kept_profile : List ℕ → Heading → Bool
is_kept_profile name heading = has_heading (codes "profile") name heading || is_profile_default heading.prefix heading.name

-- the sub-property has one of these names
abbrev pub is_kept_sub : List (List ℕ) → List ℕ → Bool
is_kept_sub names name = list_any (bytes_eq name) names

-- these keys of the sections of this profile
abbrev pub keys_in_profile : List ℕ → List (List ℕ) → Keeps
keys_in_profile name keys = record { section = λ text. is_kept_profile name (heading_of text); key = is_kept_key keys; sub = λ _. true }

-- the property of this service in the services sections of this name, and the sub-properties with these names
abbrev pub subs_in_services : List ℕ → List ℕ → List (List ℕ) → Keeps
subs_in_services name service subs = record { section = λ text. has_heading (codes "services") name (heading_of text); key = λ key. bytes_eq key service; sub = is_kept_sub subs }

abbrev pub keeps_of : Kept → Keeps
keeps_of All = everything
keeps_of (Profile name keys) = keys_in_profile name.now (map (λ k. k.now) keys.now)
keeps_of (Services name service subs) = subs_in_services name.now service.now (map (λ s. s.now) subs.now)
