-- The values of parsed files, as the laws speak of them.
use Rattle.std.specs.Prelude.{ℕ, List, Option}
use Rattle.std.specs.Option.{option_and_then}
use Rattle.env_config.specs.Sections.{Section}
use Rattle.env_config.specs.Texts.{Named, value_under}

-- the value of a key in the section of a name
abbrev pub value_in : Named Section → List ℕ → List ℕ → Option (List ℕ)
value_in sections name key = option_and_then (λ section. value_under section.properties key) (value_under sections.values name)
