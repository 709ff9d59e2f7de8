use Rattle.std.proofs.Common.{◌≡◌, map, drop}
use Rattle.env_config.proofs.TextsLemmas.{word_of}
use Rattle.env_config.specs.Sections.{has_profile_default}
use Rattle.env_config.proofs.heading.has_profile_default.Given as goal

-- no name that passed is it
abbrev pub invariant-loop-name : goal.invariant-loop-name
invariant-loop-name l = has_profile_default (map word_of l.names) ≡ has_profile_default (map word_of (drop l.name-index l.names))
