use Rattle.std.proofs.Common.{◌≡◌, length}
use Rattle.smithy_core.specs.TextPairs.{lower}
use Rattle.env_config.specs.Entries.{left_in}
use Rattle.env_config.specs.SectionProperties.{property_values}
use Rattle.env_config.specs.Texts.{value_under}
use Rattle.env_config.proofs.section_properties.value_of.Given as goal

-- no key that passed is it
abbrev pub invariant-loop-entry : goal.invariant-loop-entry
invariant-loop-entry l = value_under (property_values (left_in l.fn.entries)) (lower l.name) ≡ value_under (property_values (left_in l.entries)) (lower l.name)

abbrev pub decreases-loop-entry : goal.decreases-loop-entry
decreases-loop-entry l = length (left_in l.entries)
