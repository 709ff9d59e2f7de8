use Rattle.std.proofs.Common.{◌-◌, length}
use Rattle.env_config.specs.Texts.{pairs_of}
use Rattle.env_config.proofs.PlaceLemmas.{IsPassed}
use Rattle.env_config.proofs.few_pairs.place_of.Given as goal

-- the key belongs behind the pairs that passed
abbrev pub invariant-loop-at : goal.invariant-loop-at
invariant-loop-at l = IsPassed (pairs_of l.pairs) l.key l.at

abbrev pub decreases-loop-at : goal.decreases-loop-at
decreases-loop-at l = length l.pairs - l.at
