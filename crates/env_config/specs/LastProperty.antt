-- What the code's last property stands for, and what its steps answer.
use Rattle.std.specs.Prelude.{◌≡◌, ℕ, List, string_bytes, Result, Ok, Err}
use Rattle.env_config.specs.declared.fault.GrammarFault.{GrammarFault}
use Rattle.env_config.specs.declared.fault.GrammarFault.TheVariants as line
use Rattle.env_config.specs.declared.last_property.LastProperty.{LastProperty}
use Rattle.env_config.specs.declared.line.PropertyFault.{PropertyFault}
use Rattle.env_config.specs.Fault.{flaw_message}
use Rattle.env_config.specs.Raw.{Last, sub_checked}

abbrev pub last_of : LastProperty → Last
last_of last = record { key = string_bytes last.key; value = string_bytes last.value; is_parent = last.is_parent }

-- the property that was read, or the message
abbrev pub MakesLast : Result Last (List ℕ) → Result LastProperty GrammarFault → Type 0
MakesLast step (Ok last) = step ≡ Ok (last_of last)
MakesLast step (Err (line.Bad flaw)) = step ≡ Err (flaw_message flaw)
MakesLast step (Err line.NoMemory) = Unit {0}

-- a property, or the message of a line that is none below an empty value
abbrev pub TestsSubProperty : Result (List ℕ × List ℕ) PropertyFault → Result (Unit {0}) GrammarFault → Type 0
TestsSubProperty property (Ok _) = (last : Last) → sub_checked property last ≡ Ok last
TestsSubProperty property (Err (line.Bad flaw)) = (last : Last) → sub_checked property last ≡ Err (flaw_message flaw)
TestsSubProperty property (Err line.NoMemory) = Unit {0}

-- the value is what the step gives, or the step refuses with the message; out of memory says nothing
abbrev pub TakesStep : {X : Type 0} → Result X (List ℕ) → X → Result (Unit {0}) GrammarFault → Type 0
TakesStep step now (Ok _) = step ≡ Ok now
TakesStep step now (Err (line.Bad flaw)) = step ≡ Err (flaw_message flaw)
TakesStep step now (Err line.NoMemory) = Unit {0}
