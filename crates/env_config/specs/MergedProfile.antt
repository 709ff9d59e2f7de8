-- The selected profile, merged from the values that are taken from each file.
use Rattle.std.specs.Prelude.{◌≡◌, ℕ, true, List, Option, Some, None, Result, Ok, Err}
use Rattle.env_config.specs.declared.parse_fault.ParseFault.{ParseFault}
use Rattle.env_config.specs.declared.parse_fault.ParseFault.TheVariants.{Parse, NoMemory}
use Rattle.env_config.specs.declared.sections.EnvConfigSections.{EnvConfigSections}
use Rattle.env_config.specs.EnvConfigSections.{sections_of, selected_of}
use Rattle.env_config.specs.Laws.{value_in}
use Rattle.env_config.specs.ParseFault.{faulty_line_of}
use Rattle.env_config.specs.Raw.{Keeps}
use Rattle.env_config.specs.Sections.{FaultyLine, FileText, Sections, after_file, merged_into, with_file}
use Rattle.env_config.specs.Texts.{Named}

-- the profile with the values that are taken from a file
abbrev pub with_taken : Sections → List ℕ → Option (List (List ℕ × List ℕ)) → Sections
with_taken sections profile None = sections
with_taken sections profile (Some pairs) = record sections { profiles = merged_into sections.profiles profile pairs }

-- the profile has equal values at the keys that are kept
abbrev pub HasSame : Keeps → List ℕ → Sections → Sections → Type 0
HasSame keeps profile all some = (key : List ℕ) → keeps.key key ≡ true → value_in some.profiles profile key ≡ value_in all.profiles profile key

-- the values of the file's text are merged, or its first faulty line is told
abbrev pub MergesProfile : Keeps → List ℕ → Result (Named (List (List ℕ × List ℕ))) (ℕ × List ℕ) → FileText → Sections → Sections → Result (Unit {0}) ParseFault → Type 0
MergesProfile keeps profile read file before now (Err (Parse error)) = (others : Named (List (List ℕ × List ℕ)) → Result Sections FaultyLine) → after_file file others read ≡ Err (faulty_line_of error)
MergesProfile keeps profile read file before now (Err NoMemory) = Unit {0}
MergesProfile keeps profile (Ok read) file before now (Ok _) = (all : Sections) → HasSame keeps profile all before → HasSame keeps profile (with_file keeps all file.kind read) now
MergesProfile keeps profile (Err fault) file before now (Ok _) = ⊥

-- the values of the profile that the sections have, or the first faulty line
abbrev pub ParsesProfile : Keeps → Result Sections FaultyLine → List ℕ → Result EnvConfigSections ParseFault → Type 0
ParsesProfile keeps read profile (Err (Parse error)) = read ≡ Err (faulty_line_of error)
ParsesProfile keeps read profile (Err NoMemory) = Unit {0}
ParsesProfile keeps (Ok all) profile (Ok some) = HasSame keeps profile all (sections_of some) × (selected_of some ≡ profile)
ParsesProfile keeps (Err line) profile (Ok some) = ⊥
