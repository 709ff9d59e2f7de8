-- What merged sections hold in the words of the definitions, and what the calls that make them answer.
use Rattle.std.specs.Prelude.{◌≡◌, ℕ, List, [], ◌++◌, codes, unwrap_or, string_bytes, Result, Ok, Err}
use Rattle.std.specs.Fmt.{decimal}
use Rattle.std.specs.List.{AllZip}
use Rattle.env_config.specs.declared.parse_fault.ParseFault.{ParseFault}
use Rattle.env_config.specs.declared.parse_fault.ParseFault.TheVariants.{Parse, NoMemory}
use Rattle.env_config.specs.declared.profile.Profile.{Profile}
use Rattle.env_config.specs.declared.profile.SsoSession.{SsoSession}
use Rattle.env_config.specs.declared.sections.EnvConfigSections.{EnvConfigSections}
use Rattle.env_config.specs.ParseFault.{faulty_line_of}
use Rattle.env_config.specs.Profile.{profile_section, session_section}
use Rattle.env_config.specs.Properties.{others_of}
use Rattle.env_config.specs.Raw.{Keeps, raw}
use Rattle.env_config.specs.Section.{IsKeyedSection, IsSameSection, section_of}
use Rattle.env_config.specs.Sections.{FaultyLine, FileText, Sections, after_file, with_file}
use Rattle.env_config.specs.Texts.{CopiedUnder, EachValue, named_as}

-- the merged sections
abbrev pub sections_of : EnvConfigSections → Sections
sections_of sections = record {
  profiles = named_as (λ profile. section_of (profile_section profile)) sections.profiles;
  sessions = named_as (λ session. section_of (session_section session)) sections.sessions;
  others = others_of sections.others;
}

-- the profiles themselves, by their names
abbrev pub profiles_in : EnvConfigSections → List (List ℕ × Profile)
profiles_in sections = sections.profiles.values

-- the sessions themselves, by their names
abbrev pub sessions_in : EnvConfigSections → List (List ℕ × SsoSession)
sessions_in sections = sections.sessions.values

-- in each profile and session each property stands under its own key
abbrev pub AreKeyed : EnvConfigSections → Type 0
AreKeyed sections =
    EachValue (λ profile. IsKeyedSection (profile_section profile)) (profiles_in sections) × EachValue (λ session. IsKeyedSection (session_section session)) (sessions_in sections)

-- the name of the selected profile
abbrev pub selected_of : EnvConfigSections → List ℕ
selected_of sections = string_bytes sections.selected

-- equal profiles and sessions, property by property
abbrev pub HasCopies : EnvConfigSections → EnvConfigSections → Type 0
HasCopies sections copy =
    AllZip (CopiedUnder (λ profile copy. IsSameSection (profile_section profile) (profile_section copy))) (profiles_in sections) (profiles_in copy)
    × AllZip (CopiedUnder (λ session copy. IsSameSection (session_section session) (session_section copy))) (sessions_in sections) (sessions_in copy)

-- ## Answers

-- what is kept of the file's text is merged, whatever the files after it add, or its first faulty line is told
abbrev pub MergesText : Keeps → Sections → FileText → Sections → Result (Unit {0}) ParseFault → Type 0
MergesText keeps before file now (Ok _) = (others : Sections → Result Sections FaultyLine) → after_file file (λ read. others (with_file keeps before file.kind read)) (raw keeps file.contents) ≡ others now
MergesText keeps before file now (Err (Parse error)) = (others : Sections → Result Sections FaultyLine) → after_file file (λ read. others (with_file keeps before file.kind read)) (raw keeps file.contents) ≡ Err (faulty_line_of error)
MergesText keeps before file now (Err NoMemory) = Unit {0}

-- the fault of a file's line
abbrev pub IsLineFault : FileText → ℕ → List ℕ → ParseFault → Type 0
IsLineFault file number message (Parse error) = faulty_line_of error ≡ record { path = unwrap_or file.path []; line_number = number; message = message }
IsLineFault file number message NoMemory = Unit {0}

-- the sections of the files under the profile's name, or the first faulty line
abbrev pub ParsesSections : Result Sections FaultyLine → List ℕ → Result EnvConfigSections ParseFault → Type 0
ParsesSections read profile (Ok sections) = (read ≡ Ok (sections_of sections)) × (selected_of sections ≡ profile)
ParsesSections read profile (Err (Parse error)) = read ≡ Err (faulty_line_of error)
ParsesSections read profile (Err NoMemory) = Unit {0}

-- what is shown to one who debugs: the selected profile, and how many profiles and sessions there are
abbrev pub sections_shown : List ℕ → ℕ → ℕ → List ℕ
sections_shown selected profiles sessions =
    codes "EnvConfigSections(" ++ (selected ++ (codes " selected, " ++ (decimal profiles ++ (codes " profiles, " ++ (decimal sessions ++ codes " sessions)")))))
