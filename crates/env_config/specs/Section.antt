-- What a section holds, whether it is a profile or a session.
use Rattle.std.specs.Prelude.{◌≡◌, ℕ, List, ◌++◌, codes, string_bytes}
use Rattle.std.specs.Fmt.{decimal}
use Rattle.std.specs.List.{AllByRecursion}
use Rattle.env_config.specs.declared.section.Section.{Section}
use Rattle.env_config.specs.SectionProperties.{property_values}
use Rattle.env_config.specs.Sections as sections

-- the name and the value of each key
abbrev pub section_of : Section → sections.Section
section_of section = record { name = string_bytes section.name; properties = property_values section.properties }

-- all that the properties of a section hold
abbrev pub section_contents : Section → List (List ℕ × (List ℕ × List ℕ))
section_contents section = section.properties

-- each property stands under its own key
abbrev pub IsKeyed : List (List ℕ × (List ℕ × List ℕ)) → Type 0
IsKeyed contents = AllByRecursion (λ e. e.1.0 ≡ e.0) contents

-- each property of the section stands under its own key
abbrev pub IsKeyedSection : Section → Type 0
IsKeyedSection section = IsKeyed (section_contents section)

-- an equal name with equal properties
abbrev pub IsSameSection : Section → Section → Type 0
IsSameSection section copy = (string_bytes copy.name ≡ string_bytes section.name) × (section_contents copy ≡ section_contents section)

-- a section of this kind as it is shown to one who debugs: its name, and how many properties it has
abbrev pub section_shown : List ℕ → List ℕ → ℕ → List ℕ
section_shown kind name count = kind ++ (codes "(" ++ (name ++ (codes ", " ++ (decimal count ++ codes " properties)"))))
