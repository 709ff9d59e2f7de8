-- Which files are loaded.
use Rattle.std.specs.Prelude.{◌≡◌, ◌<◌, ℕ, Bool, List, [], ◌∷◌, ◌++◌, codes, map, if◌then◌else◌, string_bytes, Result, Ok, Err, length}
use Rattle.std.specs.Fmt.{decimal}
use Rattle.env_config.specs.declared.source.EnvConfigFileKind.{EnvConfigFileKind}
use Rattle.env_config.specs.declared.source.EnvConfigFileKind.TheVariants.{Config, Credentials}
use Rattle.env_config.specs.declared.files.Builder.{Builder}
use Rattle.env_config.specs.declared.files.BuildFault.{BuildFault}
use Rattle.env_config.specs.declared.files.BuildFault.TheVariants as build
use Rattle.env_config.specs.declared.files.EnvConfigFile.{EnvConfigFile}
use Rattle.env_config.specs.declared.files.EnvConfigFile.TheVariants.{Default, FileContents, FilePath}
use Rattle.env_config.specs.declared.files.EnvConfigFiles.{EnvConfigFiles}

-- a default file, a file at a path, or a given text
pub data Place : Type 0 where
  Usual : EnvConfigFileKind → Place
  At : EnvConfigFileKind → List ℕ → Place
  Given : EnvConfigFileKind → List ℕ → Place

abbrev pub file_place : EnvConfigFile → Place
file_place (Default kind) = Usual kind
file_place (FilePath kind path) = At kind (string_bytes path)
file_place (FileContents kind contents) = Given kind (string_bytes contents)

-- where the files of a list come from
abbrev pub file_places : EnvConfigFiles → List Place
file_places files = map file_place files.files.items

-- the default file, where it is asked for
abbrev pub usual_if : Bool → EnvConfigFileKind → List Place
usual_if on kind = if on then Usual kind ∷ [] else []

-- these places, or those of the two default files where there are none
abbrev pub or_usual : List Place → List Place
or_usual [] = Usual Config ∷ Usual Credentials ∷ []
or_usual (place ∷ places) = place ∷ places

-- the files that were added
abbrev pub added_places : Builder → List Place
added_places builder = map file_place builder.files.items

-- whether the default config file and the default credentials file are loaded
abbrev pub defaults_of : Builder → Bool × Bool
defaults_of builder = (builder.config, builder.credentials)

-- the default config file, the default credentials file, and then those that were added
abbrev pub chosen_places : Builder → List Place
chosen_places builder = usual_if (defaults_of builder).0 Config ++ (usual_if (defaults_of builder).1 Credentials ++ added_places builder)

-- the files, or none are chosen
abbrev pub BuildsFiles : List Place → Result EnvConfigFiles BuildFault → Type 0
BuildsFiles places (Ok files) = (file_places files ≡ places) × (0 < length places)
BuildsFiles places (Err build.NoFiles) = places ≡ []
BuildsFiles places (Err build.NoMemory) = Unit {0}

-- what the fault prints
abbrev pub build_fault_text : BuildFault → List ℕ
build_fault_text build.NoFiles = codes "no profile files to load"
build_fault_text build.NoMemory = codes "no memory"

-- ## Shown to one who debugs

-- how many files are to be loaded
abbrev pub files_shown : ℕ → List ℕ
files_shown count = codes "EnvConfigFiles(" ++ (decimal count ++ codes " files)")

-- how many files were added
abbrev pub builder_shown : ℕ → List ℕ
builder_shown count = codes "Builder(" ++ (decimal count ++ codes " files added)")
