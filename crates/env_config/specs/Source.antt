-- What the text of a profile file holds.
use Rattle.std.specs.Prelude.{ℕ, List, [], ◌++◌, codes, Option, Some, None, option_map, string_bytes}
use Rattle.std.specs.Fmt.{decimal}
use Rattle.env_config.specs.declared.source.EnvConfigFileKind.{EnvConfigFileKind}
use Rattle.env_config.specs.declared.source.EnvConfigFileKind.TheVariants.{Config, Credentials}
use Rattle.env_config.specs.declared.source.File.{File}
use Rattle.env_config.specs.Sections.{FileText}

-- its kind, its path where it has one, and its contents
abbrev pub file_of : File → FileText
file_of file = record { kind = file.kind; path = option_map string_bytes file.path; contents = string_bytes file.contents }

-- ## Shown to one who debugs

abbrev pub kind_name : EnvConfigFileKind → List ℕ
kind_name Config = codes "config"
kind_name Credentials = codes "credentials"

-- where the file lies, if it lies anywhere
abbrev pub place_shown : Option (List ℕ) → List ℕ
place_shown None = []
place_shown (Some path) = codes " at " ++ path

-- the kind and the path of a file, and how long its text is
abbrev pub file_shown : EnvConfigFileKind → Option (List ℕ) → ℕ → List ℕ
file_shown kind path count = codes "File(" ++ (kind_name kind ++ (place_shown path ++ (codes ", " ++ (decimal count ++ codes " bytes)"))))

-- the selected profile, and how many files there are
abbrev pub source_shown : List ℕ → ℕ → List ℕ
source_shown profile count = codes "Source(" ++ (profile ++ (codes " selected, " ++ (decimal count ++ codes " files)")))
