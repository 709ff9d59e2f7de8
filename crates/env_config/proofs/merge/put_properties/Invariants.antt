use Rattle.std.proofs.Common.{◌≡◌, List, ℕ, length}
use Rattle.env_config.specs.Kept.{keeps_of}
use Rattle.env_config.specs.Merge.{HoldsSection}
use Rattle.env_config.specs.Properties.{Subs, properties_in}
use Rattle.env_config.specs.Sections.{Key, put_others}
use Rattle.env_config.proofs.merge.put_properties.Given as goal

-- the pairs to come give what all pairs give
abbrev pub invariant-loop-pairs : goal.invariant-loop-pairs
invariant-loop-pairs l =
    (whole : List (List ℕ × Subs) → List (Key × List ℕ)) (prefix name : List ℕ) → HoldsSection whole prefix name
    → put_others (keeps_of l.kept) (whole (properties_in l.properties)) prefix name l.pairs ≡ put_others (keeps_of l.kept) (whole (properties_in l.fn.properties)) prefix name l.fn.pairs

abbrev pub decreases-loop-pairs : goal.decreases-loop-pairs
decreases-loop-pairs l = length l.pairs
