-- The fault of a line: what it tells, its copies and its text.
use Rattle.std.specs.Prelude.{◌≡◌, ℕ, List, ◌++◌, ◌∷◌, [], codes, string_bytes}
use Rattle.std.specs.Fmt.{decimal}
use Rattle.env_config.specs.declared.parse_fault.EnvConfigParseError.{EnvConfigParseError}
use Rattle.env_config.specs.declared.parse_fault.ParseFault.{ParseFault}
use Rattle.env_config.specs.declared.parse_fault.ParseFault.TheVariants.{Parse, NoMemory}
use Rattle.smithy_core.specs.Text.{line_feed, space}
use Rattle.env_config.specs.Sections.{FaultyLine}

-- the faulty line of an error
abbrev pub faulty_line_of : EnvConfigParseError → FaultyLine
faulty_line_of error = record { path = string_bytes error.path; line_number = error.line_number; message = string_bytes error.message }

-- an equal fault, with equal texts
abbrev pub IsSameParseFault : ParseFault → ParseFault → Type 0
IsSameParseFault (Parse error) (Parse copy) = faulty_line_of copy ≡ faulty_line_of error
IsSameParseFault NoMemory NoMemory = Unit {0}
IsSameParseFault (Parse error) NoMemory = ⊥
IsSameParseFault NoMemory (Parse copy) = ⊥

-- ## Texts

abbrev pub colon : ℕ
colon = 58

-- the message stands on a line of its own, behind two spaces
abbrev pub parse_error_text : EnvConfigParseError → List ℕ
parse_error_text error =
    codes "error parsing " ++ (string_bytes error.path ++ (codes " on line " ++ (decimal error.line_number ++ ((colon ∷ line_feed ∷ space ∷ space ∷ []) ++ string_bytes error.message))))

abbrev pub parse_fault_text : ParseFault → List ℕ
parse_fault_text (Parse error) = parse_error_text error
parse_fault_text NoMemory = codes "no memory"
