-- Why files aren't loaded: the fault's copies and its text.
use Rattle.std.specs.Prelude.{◌≡◌, ℕ, List, ◌++◌, codes, string_bytes}
use Rattle.env_config.specs.ParseFault.{faulty_line_of, parse_error_text}
use Rattle.env_config.specs.declared.load_fault.CouldNotReadConfigFile.{CouldNotReadConfigFile}
use Rattle.env_config.specs.declared.load_fault.EnvConfigFileLoadError.{EnvConfigFileLoadError}
use Rattle.env_config.specs.declared.load_fault.EnvConfigFileLoadError.TheVariants.{CouldNotReadFile, NoMemory, ParseError}

-- an equal fault, with equal texts
abbrev pub IsSameLoadFault : EnvConfigFileLoadError → EnvConfigFileLoadError → Type 0
IsSameLoadFault (ParseError error) (ParseError copy) = faulty_line_of copy ≡ faulty_line_of error
IsSameLoadFault (CouldNotReadFile fault) (CouldNotReadFile copy) = string_bytes copy.path ≡ string_bytes fault.path
IsSameLoadFault NoMemory copy = copy ≡ NoMemory
IsSameLoadFault (ParseError error) NoMemory = ⊥
IsSameLoadFault (ParseError error) (CouldNotReadFile copy) = ⊥
IsSameLoadFault (CouldNotReadFile fault) NoMemory = ⊥
IsSameLoadFault (CouldNotReadFile fault) (ParseError copy) = ⊥

-- ## Texts

abbrev pub unread_text : CouldNotReadConfigFile → List ℕ
unread_text fault = codes "could not read file `" ++ (string_bytes fault.path ++ codes "`")

abbrev pub load_fault_text : EnvConfigFileLoadError → List ℕ
load_fault_text (ParseError error) = codes "could not parse profile file: " ++ parse_error_text error
load_fault_text (CouldNotReadFile fault) = unread_text fault
load_fault_text NoMemory = codes "no memory"
