-- Values by their keys, as the code keeps them.
use Rattle.std.specs.Prelude.{ℕ, List, string_bytes}
use Rattle.env_config.specs.declared.texts.Pairs.{Pairs}
use Rattle.env_config.specs.declared.texts.Pairs.TheVariants.{PairText, PairList, PairMap}
use Rattle.env_config.specs.Texts.{one_pair, pairs_of}

-- the texts of the pairs, in whatever form they are kept
abbrev pub pairs_in : Pairs → List (List ℕ × List ℕ)
pairs_in (PairText text) = one_pair (string_bytes text)
pairs_in (PairList pairs) = pairs
pairs_in (PairMap pairs) = pairs_of pairs.entries
