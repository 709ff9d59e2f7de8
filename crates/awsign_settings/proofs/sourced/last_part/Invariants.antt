use Rattle.std.proofs.Common.{◌≡◌, map, option_map, take}
use Rattle.awsign_settings.specs.Own.{own_of}
use Rattle.awsign_settings.specs.Settings.{last_part}
use Rattle.awsign_settings.proofs.sourced.last_part.Given as goal

-- the part in the last file so far that has it
abbrev pub invariant-loop-own : goal.invariant-loop-own
invariant-loop-own l = option_map (λ found. ((own_of found.0.now).file, found.1.now)) l.found ≡ last_part l.part (map own_of (take l.own-index l.owns))
