-- What is wrong with a line, and how the fault of a line becomes the fault of its text.
use Rattle.std.specs.Prelude.{ℕ, List, codes}
use Rattle.env_config.specs.declared.fault.GrammarFault.{GrammarFault}
use Rattle.env_config.specs.declared.fault.GrammarFault.TheVariants as line
use Rattle.env_config.specs.declared.fault.LineFlaw.{LineFlaw}
use Rattle.env_config.specs.declared.fault.LineFlaw.TheVariants as flaw
use Rattle.env_config.specs.declared.fault.RawFault.{RawFault}
use Rattle.env_config.specs.declared.fault.RawFault.TheVariants as raw

abbrev pub flaw_message : LineFlaw → List ℕ
flaw_message flaw.NoBracket = codes "Profile definition must end with ']'"
flaw_message flaw.NoSection = codes "Expected a profile definition"
flaw_message flaw.NoProperty = codes "Expected a property definition, found continuation"
flaw_message flaw.NoEquals = codes "Expected an '=' sign defining a property"
flaw_message flaw.NoName = codes "Property did not have a name"
flaw_message flaw.NoSubEquals = codes "Expected an '=' sign defining a sub-property"
flaw_message flaw.NoSubName = codes "Sub-property did not have a name"

abbrev pub numbered : ℕ → GrammarFault → RawFault
numbered number (line.Bad flaw) = raw.Line number flaw
numbered number line.NoMemory = raw.NoMemory
