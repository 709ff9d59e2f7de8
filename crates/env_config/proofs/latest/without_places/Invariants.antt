use Rattle.std.proofs.Common.{◌≡◌, ◌++◌}
use Rattle.env_config.specs.Latest.{without_places}
use Rattle.env_config.specs.LatestView.{placed_of}
use Rattle.env_config.proofs.latest.without_places.Given as goal

-- the pairs so far, and those to come, are all
abbrev pub invariant-loop-key : goal.invariant-loop-key
invariant-loop-key l = l.texts ++ without_places (placed_of l.key-iterator) ≡ without_places (placed_of l.fn.values.entries)
