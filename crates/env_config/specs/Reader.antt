-- A reader's sink stands for what the lines so far gave, but for the property that was begun last.
use Rattle.std.specs.Prelude.{◌≡◌, ℕ, Bool, true, List, Option, Some, None, option_map, Result, Ok, Err}
use Rattle.env_config.specs.declared.fault.GrammarFault.{GrammarFault}
use Rattle.env_config.specs.declared.fault.GrammarFault.TheVariants as line
use Rattle.env_config.specs.declared.fault.RawFault.{RawFault}
use Rattle.env_config.specs.declared.fault.RawFault.TheVariants as faults
use Rattle.env_config.specs.declared.reader.OpenSection.{OpenSection}
use Rattle.env_config.specs.declared.reader.Reader.{Reader}
use Rattle.env_config.specs.Fault.{flaw_message}
use Rattle.env_config.specs.LastProperty.{last_of}
use Rattle.env_config.specs.Raw.{Keeps, Last, State, properties_of, put_property, put_section}
use Rattle.env_config.specs.Texts.{Named}

-- how a sink stands for the section that is open and for all sections
abbrev pub Standing : Type 0 → Type 1
Standing S = S → Option (List ℕ) → Named (List (List ℕ × List ℕ)) → Type 0

-- the sections with the property that was begun last in the one of this name
abbrev pub with_pending : Keeps → Named (List (List ℕ × List ℕ)) → List ℕ → Option Last → Named (List (List ℕ × List ℕ))
with_pending keeps sections name None = sections
with_pending keeps sections name (Some last) = put_section keeps sections name (put_property keeps (properties_of sections name) last)

-- the property that the step gives, or its message
abbrev pub given_step : Result Last (List ℕ) → Result (Option Last) (List ℕ)
given_step (Ok last) = Ok (Some last)
given_step (Err message) = Err message

-- the sink stands for these sections, whichever is open
pub record HasHanded {S : Type 0} (Stands : Standing S) (sections : Named (List (List ℕ × List ℕ))) (sink : S) : Type 0 where
  pub at : Option (List ℕ)
  pub stands : Stands sink at sections

-- the sink stands for these sections, and the one of this name is open, if it is kept
pub record HandsOn {S : Type 0} (Stands : Standing S) (keeps : Keeps) (name : List ℕ) (is_kept : Bool) (sections : Named (List (List ℕ × List ℕ))) (sink : S) : Type 0 where
  pub at : Option (List ℕ)
  pub stands : Stands sink at sections
  pub kept : is_kept ≡ keeps.section name
  pub open_now : is_kept ≡ true → at ≡ Some name
  pub settled : put_section keeps sections name (properties_of sections name) ≡ sections

pub record ReadsSection {S : Type 0} (Stands : Standing S) (keeps : Keeps) (all : State) (sink : S) (at : OpenSection) : Type 0 where
  pub name : List ℕ
  pub sections : Named (List (List ℕ × List ℕ))
  pub hands : HandsOn Stands keeps name at.is_kept sections sink
  pub state : all ≡ record { sections = with_pending keeps sections name (option_map last_of at.last); open_section = Some (record { name = name; last = option_map last_of at.last }) }

pub record ReadsNone {S : Type 0} (Stands : Standing S) (all : State) (sink : S) : Type 0 where
  pub none : all.open_section ≡ None
  pub handed : HasHanded Stands all.sections sink

abbrev pub ReadsAt : {S : Type 0} → Standing S → Keeps → State → S → Option OpenSection → Type 0
ReadsAt Stands keeps all sink None = ReadsNone Stands all sink
ReadsAt Stands keeps all sink (Some at) = ReadsSection Stands keeps all sink at

-- the reader stands for what all lines gave
abbrev pub StandsForLines : {S : Type 0} → Standing S → Keeps → State → Reader S → Type 0
StandsForLines Stands keeps all reader = ReadsAt Stands keeps all reader.sink reader.at

-- the reader stands for what the step gives, or the step refuses with the message; running out of memory says nothing
abbrev pub ReadsStep : {S : Type 0} → Standing S → Keeps → Result State (List ℕ) → Reader S → Result (Unit {0}) GrammarFault → Type 0
ReadsStep Stands keeps step now (Err (line.Bad flaw)) = step ≡ Err (flaw_message flaw)
ReadsStep Stands keeps step now (Err line.NoMemory) = Unit {0}
ReadsStep Stands keeps (Ok all) now (Ok _) = StandsForLines Stands keeps all now
ReadsStep Stands keeps (Err message) now (Ok _) = ⊥

-- the sink stands for the raw sections
pub record IsReadInto {S : Type 0} (Stands : Standing S) (read : Result (Named (List (List ℕ × List ℕ))) (ℕ × List ℕ)) (sink : S) : Type 0 where
  pub sections : Named (List (List ℕ × List ℕ))
  pub is : read ≡ Ok sections
  pub handed : HasHanded Stands sections sink

-- the raw sections in the sink, or the number and the message of the first faulty line; running out of memory says nothing
abbrev pub ReadsInto : {S : Type 0} → Standing S → Result (Named (List (List ℕ × List ℕ))) (ℕ × List ℕ) → Result S RawFault → Type 0
ReadsInto Stands read (Ok sink) = IsReadInto Stands read sink
ReadsInto Stands read (Err (faults.Line number flaw)) = read ≡ Err (number, flaw_message flaw)
ReadsInto Stands read (Err faults.NoMemory) = Unit {0}
