-- What a property holds.
use Rattle.std.specs.Prelude.{ℕ, List, ◌++◌, codes, string_bytes}
use Rattle.std.specs.Fmt.{decimal}
use Rattle.env_config.specs.declared.property.Property.{Property}

-- its key and its value
abbrev pub property_pair : Property → List ℕ × List ℕ
property_pair property = (string_bytes property.key, string_bytes property.value)

-- a property as it is shown to one who debugs: its key, and how long its value is
abbrev pub property_shown : List ℕ → ℕ → List ℕ
property_shown key count = codes "Property(" ++ (key ++ (codes ", " ++ (decimal count ++ codes " bytes)")))
