-- What the properties of a section hold, whoever gave them.
use Rattle.std.specs.Prelude.{◌&&◌, ℕ, Bool, List, map, bytes_eq, String, string_bytes}
use Rattle.std.specs.Cmp.Lexicographic.{pointwise}
use Rattle.std.specs.declared.alloc.Global.{Global}
use Rattle.env_config.specs.declared.property.Property.{Property}
use Rattle.env_config.specs.declared.section_properties.Held.{Held}
use Rattle.env_config.specs.declared.section_properties.Held.TheVariants.{Given, Read}
use Rattle.env_config.specs.Property.{property_pair}

-- all that the properties hold, under their keys
abbrev pub contents_of : List (String Global × Property) → List (List ℕ × (List ℕ × List ℕ))
contents_of entries = map (λ e. (string_bytes e.0, property_pair e.1)) entries

-- a value under its own key
abbrev pub own : List ℕ × List ℕ → List ℕ × (List ℕ × List ℕ)
own pair = (pair.0, (pair.0, pair.1))

abbrev pub contents_in : Held → List (List ℕ × (List ℕ × List ℕ))
contents_in (Given properties) = contents_of properties.entries
contents_in (Read values) = map own values

-- the value of each key
abbrev pub property_values : List (List ℕ × (List ℕ × List ℕ)) → List (List ℕ × List ℕ)
property_values contents = map (λ e. (e.0, e.1.1)) contents

-- the values of properties under their keys
abbrev pub values_of : List (String Global × Property) → List (List ℕ × List ℕ)
values_of entries = property_values (contents_of entries)

-- equal keys with equal values
abbrev pub same_entry : List ℕ × (List ℕ × List ℕ) → List ℕ × (List ℕ × List ℕ) → Bool
same_entry e d = bytes_eq e.0 d.0 && (bytes_eq e.1.0 d.1.0 && bytes_eq e.1.1 d.1.1)

abbrev pub same_contents : List (List ℕ × (List ℕ × List ℕ)) → List (List ℕ × (List ℕ × List ℕ)) → Bool
same_contents contents others = pointwise same_entry contents others
