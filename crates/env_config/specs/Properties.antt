-- What the properties of other sections hold.
use Rattle.std.specs.Prelude.{ℕ, List, [], ◌∷◌, ◌++◌, codes, map, Option, option_map, unwrap_or, String, string_bytes}
use Rattle.std.specs.declared.alloc.Global.{Global}
use Rattle.std.specs.declared.cmp.Ordering.{Ordering}
use Rattle.std.specs.Ordering.{ordering_then}
use Rattle.std.specs.Option.{option_and_then, option_cmp}
use Rattle.std.specs.BTreeMap.{BTreeMap, insert_entry, is_at}
use Rattle.std.specs.Fmt.{decimal}
use Rattle.std.specs.Map.{lookup}
use Rattle.env_config.specs.declared.properties.Properties.{Properties}
use Rattle.env_config.specs.PropertiesKey.{names_of}
use Rattle.env_config.specs.Sections.{Key}
use Rattle.env_config.specs.Texts.{put, text_cmp, value_under}

-- ## Groups

-- the entries of all groups, each under the key that a group and a part of it make
abbrev pub spread : {A B K X : Type 0} → (A → B → K) → List (A × List (B × X)) → List (K × X)
spread make [] = []
spread make (group ∷ groups) = map (λ e. (make group.0 e.0, e.1)) group.1 ++ spread make groups

-- the sub-properties of a property: values by their names, the property's own value at no name
abbrev pub Subs : Type 0
Subs = List (Option (List ℕ) × List ℕ)

-- no name comes first
abbrev pub sub_cmp : Option (List ℕ) → Option (List ℕ) → Ordering
sub_cmp name other = option_cmp text_cmp name other

abbrev pub named_sub : Subs → Option (List ℕ) → Option (List ℕ)
named_sub subs name = lookup (is_at (sub_cmp name)) subs

abbrev pub put_named_sub : Subs → Option (List ℕ) → List ℕ → Subs
put_named_sub subs name value = insert_entry sub_cmp subs name value

-- a value among the properties of a section, by the names of the property and of the sub-property
abbrev pub sub_at : List (List ℕ × Subs) → List ℕ → Option (List ℕ) → Option (List ℕ)
sub_at properties property sub = option_and_then (λ subs. named_sub subs sub) (value_under properties property)

-- the sub-properties of a property, or none yet
abbrev pub subs_under : List (List ℕ × Subs) → List ℕ → Subs
subs_under properties property = unwrap_or (value_under properties property) []

abbrev pub put_sub_at : List (List ℕ × Subs) → List ℕ → Option (List ℕ) → List ℕ → List (List ℕ × Subs)
put_sub_at properties property sub value = put properties property (put_named_sub (subs_under properties property) sub value)

-- sections by their prefixes and names
abbrev pub Groups : Type 0
Groups = List ((List ℕ × List ℕ) × List (List ℕ × Subs))

abbrev pub names_cmp : List ℕ × List ℕ → List ℕ × List ℕ → Ordering
names_cmp names others = ordering_then (text_cmp names.0 others.0) (text_cmp names.1 others.1)

abbrev pub key_at : List ℕ × List ℕ → List ℕ × Option (List ℕ) → Key
key_at names part = record { section_key = names.0; section_name = names.1; property_name = part.0; sub_property_name = part.1 }

-- all values of sections by their keys
abbrev pub others_in : Groups → List (Key × List ℕ)
others_in groups = spread key_at (map (λ group. (group.0, spread (λ property sub. (property, sub)) group.1)) groups)

-- ## What is held

abbrev pub subs_in : BTreeMap (Option (String Global)) (String Global) → Subs
subs_in subs = map (λ e. (option_map string_bytes e.0, string_bytes e.1)) subs.entries

abbrev pub properties_in : BTreeMap (String Global) (BTreeMap (Option (String Global)) (String Global)) → List (List ℕ × Subs)
properties_in properties = map (λ e. (string_bytes e.0, subs_in e.1)) properties.entries

abbrev pub sections_in : Properties → Groups
sections_in properties = map (λ e. (names_of e.0, properties_in e.1)) properties.sections.entries

-- the value of each key
abbrev pub others_of : Properties → List (Key × List ℕ)
others_of properties = others_in (sections_in properties)

-- what is shown to one who debugs: how many sections there are
abbrev pub others_shown : ℕ → List ℕ
others_shown count = codes "Properties(" ++ (decimal count ++ codes " sections)")
