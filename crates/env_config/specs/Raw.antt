-- The raw sections of a profile file, as far as they are kept: each line moves a state on, or is refused with a message.
use Rattle.std.specs.Prelude.{◌≡◌, ℕ, ◌+◌, ◌==◌, Bool, true, List, [], ◌∷◌, ◌++◌, length, codes, slice_index, Option, Some, None, unwrap_or, Result, Ok, Err, if◌then◌else◌}
use Rattle.smithy_core.specs.Text.{line_feed}
use Rattle.smithy_core.specs.TextPairs.{lower}
use Rattle.env_config.specs.declared.fault.RawFault.{RawFault}
use Rattle.env_config.specs.declared.fault.RawFault.TheVariants as faults
use Rattle.env_config.specs.declared.line.PropertyFault.{PropertyFault}
use Rattle.env_config.specs.declared.line.PropertyFault.TheVariants.{NoEquals, NoName}
use Rattle.env_config.specs.Fault.{flaw_message}
use Rattle.env_config.specs.Line.{is_blank, is_skipped, opening_bracket, profile_lines, property_of, section_name, trimmed}
use Rattle.env_config.specs.Texts.{Named, nothing_named, put, put_named, value_under}

-- the property that was begun last: its value so far, and whether its first value was empty
pub record Last : Type 0 where
  pub key : List ℕ
  pub value : List ℕ
  pub is_parent : Bool

-- the section that is open
pub record Open : Type 0 where
  pub name : List ℕ
  pub last : Option Last

-- the sections so far, each a map from keys to values
pub record State : Type 0 where
  pub sections : Named (List (List ℕ × List ℕ))
  pub open_section : Option Open

abbrev pub start : State
start = record { sections = nothing_named; open_section = None }

-- ## What is kept

-- which sections are kept, by the texts between their brackets, which properties, by their keys, and which sub-properties, by their names
pub record Keeps : Type 0 where
  pub section : List ℕ → Bool
  pub key : List ℕ → Bool
  pub sub : List ℕ → Bool

abbrev pub everything : Keeps
everything = record { section = λ _. true; key = λ _. true; sub = λ _. true }

-- the section stands among the others, if it is kept
abbrev pub put_section : Keeps → Named (List (List ℕ × List ℕ)) → List ℕ → List (List ℕ × List ℕ) → Named (List (List ℕ × List ℕ))
put_section keeps sections name properties = if keeps.section name then put_named sections name properties else sections

-- the property stands among the others, in place of the key's value before, if it is kept
abbrev pub put_property : Keeps → List (List ℕ × List ℕ) → Last → List (List ℕ × List ℕ)
put_property keeps properties last = if keeps.key last.key then put properties last.key last.value else properties

-- the properties of a section so far
abbrev pub properties_of : Named (List (List ℕ × List ℕ)) → List ℕ → List (List ℕ × List ℕ)
properties_of sections name = unwrap_or (value_under sections.values name) []

-- ## Section lines

-- the section is opened, or gone on with
abbrev pub opened : Keeps → State → List ℕ → State
opened keeps state name = record {
  sections = put_section keeps state.sections name (properties_of state.sections name);
  open_section = Some (record { name = name; last = None });
}

abbrev pub section_step : Keeps → State → Option (List ℕ) → Result State (List ℕ)
section_step keeps state None = Err (codes "Profile definition must end with ']'")
section_step keeps state (Some name) = Ok (opened keeps state name)

-- ## Property lines

-- the property stands in the open section
abbrev pub with_last : Keeps → State → List ℕ → Last → State
with_last keeps state name last = record {
  sections = put_section keeps state.sections name (put_property keeps (properties_of state.sections name) last);
  open_section = Some (record { name = name; last = Some last });
}

-- the key is in lower case
abbrev pub begun_property : Result (List ℕ × List ℕ) PropertyFault → Result Last (List ℕ)
begun_property (Ok pair) = Ok (record { key = lower pair.0; value = pair.1; is_parent = length pair.1 == 0 })
begun_property (Err NoEquals) = Err (codes "Expected an '=' sign defining a property")
begun_property (Err NoName) = Err (codes "Property did not have a name")

-- ## Continuations

-- an LF and the trimmed line, its comment kept, are appended
abbrev pub grown : Last → List ℕ → Last
grown last line = record last { value = last.value ++ line_feed ∷ trimmed line }

-- below an empty first value each line is a property itself
abbrev pub sub_checked : Result (List ℕ × List ℕ) PropertyFault → Last → Result Last (List ℕ)
sub_checked (Ok pair) last = Ok last
sub_checked (Err NoEquals) last = Err (codes "Expected an '=' sign defining a sub-property")
sub_checked (Err NoName) last = Err (codes "Sub-property did not have a name")

unfoldable pub continued : Last → List ℕ → Result Last (List ℕ)
continued last line = if last.is_parent then sub_checked (property_of line) (grown last line) else Ok (grown last line)

abbrev pub continued_or : Option Last → List ℕ → Result Last (List ℕ)
continued_or None line = Err (codes "Expected a property definition, found continuation")
continued_or (Some last) line = continued last line

-- ## Lines

-- the last property of the section that is open, or the message
abbrev pub last_step : Keeps → State → List ℕ → Result Last (List ℕ) → Result State (List ℕ)
last_step keeps state name (Ok last) = Ok (with_last keeps state name last)
last_step keeps state name (Err message) = Err message

-- a property and a continuation need a section
abbrev pub within_section : Keeps → State → Option Open → (Open → Result Last (List ℕ)) → Result State (List ℕ)
within_section keeps state None step = Err (codes "Expected a profile definition")
within_section keeps state (Some at) step = last_step keeps state at.name (step at)

-- what a line of the file does
unfoldable pub profile_line_step : Keeps → State → List ℕ → Result State (List ℕ)
profile_line_step keeps state line =
    if is_skipped line then Ok state
    else if slice_index line 0 == opening_bracket then section_step keeps state (section_name line)
    else if is_blank (slice_index line 0) then within_section keeps state state.open_section (λ at. continued_or at.last line)
    else within_section keeps state state.open_section (λ _. begun_property (property_of line))

-- goes on where the line was taken, or tells its number and message
abbrev pub after_line : ℕ → (State → Result (Named (List (List ℕ × List ℕ))) (ℕ × List ℕ)) → Result State (List ℕ) → Result (Named (List (List ℕ × List ℕ))) (ℕ × List ℕ)
after_line number others (Ok state) = others state
after_line number others (Err message) = Err (number, message)

-- what the lines from a number on give, after those that gave the state
abbrev pub raw_from : Keeps → ℕ → State → List (List ℕ) → Result (Named (List (List ℕ × List ℕ))) (ℕ × List ℕ)
raw_from keeps number state [] = Ok state.sections
raw_from keeps number state (line ∷ lines) = after_line number (λ next. raw_from keeps (number + 1) next lines) (profile_line_step keeps state line)

-- the raw sections of a text that are kept, or the number of its first faulty line and the message
unfoldable pub raw : Keeps → List ℕ → Result (Named (List (List ℕ × List ℕ))) (ℕ × List ℕ)
raw keeps text = raw_from keeps 1 start (profile_lines text)

-- the raw sections, or the number and the message of the first faulty line; out of memory says nothing
abbrev pub ReadsRaw : Result (Named (List (List ℕ × List ℕ))) (ℕ × List ℕ) → Result (Named (List (List ℕ × List ℕ))) RawFault → Type 0
ReadsRaw read (Ok sections) = read ≡ Ok sections
ReadsRaw read (Err (faults.Line number flaw)) = read ≡ Err (number, flaw_message flaw)
ReadsRaw read (Err faults.NoMemory) = Unit {0}
