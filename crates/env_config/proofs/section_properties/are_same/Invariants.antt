use Rattle.std.proofs.Common.{◌≡◌, length}
use Rattle.env_config.specs.Entries.{left_in}
use Rattle.env_config.specs.SectionProperties.{same_contents}
use Rattle.env_config.proofs.section_properties.are_same.Given as goal

-- all entries are the same exactly where those to come are
abbrev pub invariant-loop-entry : goal.invariant-loop-entry
invariant-loop-entry l = same_contents (left_in l.fn.entries) (left_in l.fn.others) ≡ same_contents (left_in l.entries) (left_in l.others)

abbrev pub decreases-loop-entry : goal.decreases-loop-entry
decreases-loop-entry l = length (left_in l.entries)
