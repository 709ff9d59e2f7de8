-- What the sink that keeps all properties stands for.
use Rattle.std.specs.Prelude.{◌≡◌, ℕ, List, Option, Some, None}
use Rattle.std.specs.Option.{option_copied}
use Rattle.env_config.specs.declared.sections_sink.SectionsSink.{SectionsSink}
use Rattle.env_config.specs.Texts.{Named, put_named}

-- the open section stands among the others
abbrev pub with_open : Named (List (List ℕ × List ℕ)) → Option (List ℕ) → List (List ℕ × List ℕ) → Named (List (List ℕ × List ℕ))
with_open sections None properties = sections
with_open sections (Some name) properties = put_named sections name properties

-- the section that is open, and all sections
pub record StandsForSections (sink : SectionsSink) (at : Option (List ℕ)) (sections : Named (List (List ℕ × List ℕ))) : Type 0 where
  pub at_is : at ≡ option_copied sink.name
  pub sections_are : sections ≡ with_open sink.sections (option_copied sink.name) sink.properties
