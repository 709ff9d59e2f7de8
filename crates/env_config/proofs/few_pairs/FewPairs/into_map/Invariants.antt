use Rattle.std.proofs.Common.{◌≡◌, ◌++◌}
use Rattle.env_config.specs.Texts.{pairs_of}
use Rattle.env_config.proofs.few_pairs.FewPairs.into_map.Given as goal

-- the pairs of the map, and those to come, are all
abbrev pub invariant-loop-key : goal.invariant-loop-key
invariant-loop-key l = pairs_of l.map.entries ++ pairs_of l.key-iterator.rest.items ≡ l.fn.self
