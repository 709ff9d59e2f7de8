-- The keys of sub-properties: what they hold, how they are built and printed.
use Rattle.std.specs.Prelude.{◌≡◌, ℕ, List, ◌++◌, [], codes, Option, Some, None, IsSome, option_map, String, string_bytes, Result, Ok, Err}
use Rattle.std.specs.declared.alloc.Global.{Global}
use Rattle.env_config.specs.declared.properties_key.PropertiesKey.{PropertiesKey}
use Rattle.env_config.specs.declared.properties_key.SectionNames.{SectionNames}
use Rattle.env_config.specs.declared.properties_key.PropertiesKeyBuilder.{PropertiesKeyBuilder}
use Rattle.env_config.specs.declared.properties_key.PropertiesKeyFault.{PropertiesKeyFault}
use Rattle.env_config.specs.declared.properties_key.PropertiesKeyFault.TheVariants.{SectionKey, SectionName, PropertyName}
use Rattle.env_config.specs.Sections.{Key}

-- the prefix and the name of a section
abbrev pub names_of : SectionNames → List ℕ × List ℕ
names_of section = (string_bytes section.section_key, string_bytes section.section_name)

-- the names in a key
abbrev pub key_of : PropertiesKey → Key
key_of key = record {
  section_key = (names_of key.section).0;
  section_name = (names_of key.section).1;
  property_name = string_bytes key.property_name;
  sub_property_name = option_map string_bytes key.sub_property_name;
}

-- the parts of a key, each where it was set
pub record KeyParts : Type 0 where
  pub section_key : Option (List ℕ)
  pub section_name : Option (List ℕ)
  pub property_name : Option (List ℕ)
  pub sub_property_name : Option (List ℕ)

-- the parts that were set
abbrev pub key_parts : PropertiesKeyBuilder → KeyParts
key_parts builder = record {
  section_key = option_map string_bytes builder.section_key;
  section_name = option_map string_bytes builder.section_name;
  property_name = option_map string_bytes builder.property_name;
  sub_property_name = option_map string_bytes builder.sub_property_name;
}

-- the key, or the first part that is missing
abbrev pub BuildsKey : PropertiesKeyBuilder → Result PropertiesKey PropertiesKeyFault → Type 0
BuildsKey builder (Ok key) =
    (builder.section_key ≡ Some key.section.section_key) × (builder.section_name ≡ Some key.section.section_name) × (builder.property_name ≡ Some key.property_name)
    × (builder.sub_property_name ≡ key.sub_property_name)
BuildsKey builder (Err SectionKey) = builder.section_key ≡ None
BuildsKey builder (Err SectionName) = IsSome builder.section_key × (builder.section_name ≡ None)
BuildsKey builder (Err PropertyName) = IsSome builder.section_key × IsSome builder.section_name × (builder.property_name ≡ None)

-- ## Texts

abbrev pub key_fault_text : PropertiesKeyFault → List ℕ
key_fault_text SectionKey = codes "A section_key is required"
key_fault_text SectionName = codes "A section_name is required"
key_fault_text PropertyName = codes "A property_name is required"

-- the sub-property's name follows a dot, where there is one
abbrev pub sub_text : Option (String Global) → List ℕ
sub_text None = []
sub_text (Some name) = codes "." ++ string_bytes name

-- a key as it is printed
abbrev pub key_text : PropertiesKey → List ℕ
key_text key =
    codes "[" ++ (string_bytes key.section.section_key ++ (codes " " ++ (string_bytes key.section.section_name ++ (codes "]." ++ (string_bytes key.property_name ++ sub_text key.sub_property_name)))))
