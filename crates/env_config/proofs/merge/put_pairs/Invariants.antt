use Rattle.std.proofs.Common.{◌≡◌, length}
use Rattle.env_config.specs.Sections.{put_identifiers}
use Rattle.env_config.specs.Section.{IsKeyed}
use Rattle.env_config.specs.SectionProperties.{property_values}
use Rattle.env_config.proofs.merge.put_pairs.Given as goal

-- the pairs to come give what all pairs give
abbrev pub invariant-loop-pairs : goal.invariant-loop-pairs
invariant-loop-pairs l = record {
  to_come : put_identifiers (property_values l.properties) l.pairs ≡ put_identifiers (property_values l.fn.properties) l.fn.pairs;
  keys : IsKeyed l.fn.properties → IsKeyed l.properties;
}

abbrev pub decreases-loop-pairs : goal.decreases-loop-pairs
decreases-loop-pairs l = length l.pairs
