use Rattle.std.proofs.Common.{◌≡◌, map, option_copied}
use Rattle.awsign_run.specs.Guess.{last_service}
use Rattle.awsign_run.proofs.guess.last_service.Given as goal

-- the last service of the labels so far
abbrev pub invariant-loop-label : goal.invariant-loop-label
invariant-loop-label l =
    (goal.iterator-loop-label).can_next l.label-iterator × (goal.iterator-loop-label).is_finite l.label-iterator
    × (option_copied l.found ≡ last_service (map (λ w. w.now) l.yielded))
