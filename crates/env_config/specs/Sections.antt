-- The sections of profile files, merged: file by file, the raw sections of a file by first appearance, keys one by one, later values winning.
use Rattle.std.specs.Prelude.{ℕ, nat_eq, nat_lt, Bool, false, ◌&&◌, ◌||◌, not, List, [], ◌∷◌, length, codes, bytes_eq, Option, Some, None, unwrap_or, Result, Ok, Err, if◌then◌else◌}
use Rattle.std.specs.declared.cmp.Ordering.{Ordering}
use Rattle.std.specs.Ordering.{ordering_then}
use Rattle.std.specs.Option.{option_cmp}
use Rattle.std.specs.Char.{is_ascii_alphanumeric}
use Rattle.std.specs.List.{list_all, list_any, position_or_len, before_first, after_first, slice_split}
use Rattle.std.specs.BTreeMap.{insert_entry, is_at}
use Rattle.std.specs.Map.{lookup}
use Rattle.smithy_core.specs.Text.{line_feed}
use Rattle.env_config.specs.declared.source.EnvConfigFileKind.{EnvConfigFileKind}
use Rattle.env_config.specs.declared.source.EnvConfigFileKind.TheVariants.{Config, Credentials}
use Rattle.env_config.specs.Line.{is_blank, is_equals, trimmed}
use Rattle.env_config.specs.Raw.{Keeps, everything, properties_of, raw}
use Rattle.env_config.specs.Texts.{Named, nothing_named, put, put_named, text_cmp, value_under}

-- ## Names

abbrev pub is_identifier_byte : ℕ → Bool
is_identifier_byte b = is_ascii_alphanumeric b || list_any (nat_eq b) (codes "_-/.%@:+")

-- letters, digits and `_-/.%@:+`; the empty text is an identifier
unfoldable pub is_identifier : List ℕ → Bool
is_identifier text = list_all is_identifier_byte text

-- a section's name, with the prefix where there is one
pub record Heading : Type 0 where
  pub prefix : Option (List ℕ)
  pub name : List ℕ

-- prefix and name stand before and after the first space or tab
abbrev pub split_heading : List ℕ → Heading
split_heading text =
    if nat_lt (position_or_len is_blank text) (length text)
    then record { prefix = Some (trimmed (before_first is_blank text)); name = trimmed (after_first is_blank text) }
    else record { prefix = None; name = text }

-- what the text between the brackets names
unfoldable pub heading_of : List ℕ → Heading
heading_of text = split_heading (trimmed text)

abbrev pub is_default : List ℕ → Bool
is_default name = bytes_eq name (codes "default")

abbrev pub is_profile_default : Option (List ℕ) → List ℕ → Bool
is_profile_default None name = false
is_profile_default (Some prefix) name = bytes_eq prefix (codes "profile") && is_default name

-- some section is `[profile default]`
abbrev pub has_profile_default : List (List ℕ) → Bool
has_profile_default names = list_any (λ name. is_profile_default (heading_of name).prefix (heading_of name).name) names

-- whether a section of a file is taken; the flag says that the file has `[profile default]`
abbrev pub is_taken_from : EnvConfigFileKind → Bool → Option (List ℕ) → List ℕ → Bool
is_taken_from Config overridden None name = is_default name && not overridden
is_taken_from Config overridden (Some prefix) name = is_identifier name
is_taken_from Credentials overridden None name = is_identifier name
is_taken_from Credentials overridden (Some prefix) name = false

-- ## Merging

-- the properties with those of a raw section whose keys are identifiers
abbrev pub put_identifiers : List (List ℕ × List ℕ) → List (List ℕ × List ℕ) → List (List ℕ × List ℕ)
put_identifiers properties [] = properties
put_identifiers properties (pair ∷ pairs) = put_identifiers (if is_identifier pair.0 then put properties pair.0 pair.1 else properties) pairs

-- a profile or a session
pub record Section : Type 0 where
  pub name : List ℕ
  pub properties : List (List ℕ × List ℕ)

abbrev pub section_properties : Option Section → List (List ℕ × List ℕ)
section_properties None = []
section_properties (Some section) = section.properties

-- the raw section goes into the section of this name
abbrev pub merged_into : Named Section → List ℕ → List (List ℕ × List ℕ) → Named Section
merged_into sections name pairs =
    put_named sections name (record { name = name; properties = put_identifiers (section_properties (value_under sections.values name)) pairs })

-- where a sub-property stands
pub record Key : Type 0 where
  pub section_key : List ℕ
  pub section_name : List ℕ
  pub property_name : List ℕ
  pub sub_property_name : Option (List ℕ)

-- keys are compared part by part
abbrev pub key_cmp : Key → Key → Ordering
key_cmp a b =
    ordering_then (text_cmp a.section_key b.section_key)
    (ordering_then (text_cmp a.section_name b.section_name)
    (ordering_then (text_cmp a.property_name b.property_name) (option_cmp text_cmp a.sub_property_name b.sub_property_name)))

-- a finite map from keys: the value at a key, and the map with one
abbrev pub value_at_key : List (Key × List ℕ) → Key → Option (List ℕ)
value_at_key entries key = lookup (is_at (key_cmp key)) entries

-- the value is put at its key, in place of any other
abbrev pub put_at_key : List (Key × List ℕ) → Key → List ℕ → List (Key × List ℕ)
put_at_key entries key value = insert_entry key_cmp entries key value

-- the sub-property stands at its key, if it is kept
abbrev pub put_kept_sub : Keeps → List (Key × List ℕ) → List ℕ → List ℕ → List ℕ → List ℕ → List ℕ → List (Key × List ℕ)
put_kept_sub keeps others prefix name key sub value =
    if keeps.sub sub then put_at_key others (record { section_key = prefix; section_name = name; property_name = key; sub_property_name = Some sub }) value else others

-- the sub-property of a piece, if it is kept: nothing where it has no `=`
abbrev pub put_sub : Keeps → List (Key × List ℕ) → List ℕ → List ℕ → List ℕ → List ℕ → List (Key × List ℕ)
put_sub keeps others prefix name key piece =
    if nat_lt (position_or_len is_equals piece) (length piece)
    then put_kept_sub keeps others prefix name key (trimmed (before_first is_equals piece)) (trimmed (after_first is_equals piece))
    else others

abbrev pub put_subs : Keeps → List (Key × List ℕ) → List ℕ → List ℕ → List ℕ → List (List ℕ) → List (Key × List ℕ)
put_subs keeps others prefix name key [] = others
put_subs keeps others prefix name key (piece ∷ pieces) = put_subs keeps (put_sub keeps others prefix name key piece) prefix name key pieces

-- a value is split at LF
abbrev pub value_pieces : List ℕ → List (List ℕ)
value_pieces value = slice_split (λ b. nat_eq b line_feed) value

-- the sub-properties of each key that is an identifier, piece by piece of its value, as far as they are kept
abbrev pub put_others : Keeps → List (Key × List ℕ) → List ℕ → List ℕ → List (List ℕ × List ℕ) → List (Key × List ℕ)
put_others keeps others prefix name [] = others
put_others keeps others prefix name (pair ∷ pairs) =
    put_others keeps (if is_identifier pair.0 then put_subs keeps others prefix name pair.0 (value_pieces pair.1) else others) prefix name pairs

-- profiles, sessions, and the sub-properties of all other sections
pub record Sections : Type 0 where
  pub profiles : Named Section
  pub sessions : Named Section
  pub others : List (Key × List ℕ)

-- no section
abbrev pub no_sections : Sections
no_sections = record { profiles = nothing_named; sessions = nothing_named; others = [] }

-- a section without prefix is a profile
abbrev pub with_section : Keeps → Sections → Option (List ℕ) → List ℕ → List (List ℕ × List ℕ) → Sections
with_section keeps sections None name pairs = record sections { profiles = merged_into sections.profiles name pairs }
with_section keeps sections (Some prefix) name pairs =
    if bytes_eq prefix (codes "profile") then record sections { profiles = merged_into sections.profiles name pairs }
    else if bytes_eq prefix (codes "sso-session") then record sections { sessions = merged_into sections.sessions name pairs }
    else record sections { others = put_others keeps sections.others prefix name pairs }

-- a raw section is merged, or ignored
abbrev pub with_raw : Keeps → Sections → EnvConfigFileKind → Bool → Heading → List (List ℕ × List ℕ) → Sections
with_raw keeps sections kind overridden heading pairs =
    if is_taken_from kind overridden heading.prefix heading.name then with_section keeps sections heading.prefix heading.name pairs else sections

abbrev pub with_names : Keeps → Sections → EnvConfigFileKind → Bool → Named (List (List ℕ × List ℕ)) → List (List ℕ) → Sections
with_names keeps sections kind overridden file [] = sections
with_names keeps sections kind overridden file (name ∷ names) =
    with_names keeps (with_raw keeps sections kind overridden (heading_of name) (properties_of file name)) kind overridden file names

-- the raw sections of a file, in the order of their first appearance
unfoldable pub with_file : Keeps → Sections → EnvConfigFileKind → Named (List (List ℕ × List ℕ)) → Sections
with_file keeps sections kind file = with_names keeps sections kind (has_profile_default file.names) file file.names

-- ## Files

-- a file that was read: its kind, its path if it has one, and its text
pub record FileText : Type 0 where
  pub kind : EnvConfigFileKind
  pub path : Option (List ℕ)
  pub contents : List ℕ

-- the first faulty line: the path of its file, empty where it has none, its number and the message
pub record FaultyLine : Type 0 where
  pub path : List ℕ
  pub line_number : ℕ
  pub message : List ℕ

abbrev pub after_file : FileText → (Named (List (List ℕ × List ℕ)) → Result Sections FaultyLine) → Result (Named (List (List ℕ × List ℕ))) (ℕ × List ℕ) → Result Sections FaultyLine
after_file file others (Ok sections) = others sections
after_file file others (Err fault) = Err (record { path = unwrap_or file.path []; line_number = fault.0; message = fault.1 })

-- what the files to come add to the sections
abbrev pub files_from : Keeps → Sections → List FileText → Result Sections FaultyLine
files_from keeps sections [] = Ok sections
files_from keeps sections (file ∷ files) = after_file file (λ read. files_from keeps (with_file keeps sections file.kind read) files) (raw keeps file.contents)

-- the merged sections of the files, or the first faulty line of the first faulty file
unfoldable pub sections : List FileText → Result Sections FaultyLine
sections files = files_from everything no_sections files
