use Rattle.std.proofs.Common.{◌≡◌, map}
use Rattle.awsign_settings.proofs.value_line.lines_of.Given as goal

-- the lines so far
abbrev pub invariant-loop-line : goal.invariant-loop-line
invariant-loop-line l =
    (goal.iterator-loop-line).can_next l.line-iterator × (goal.iterator-loop-line).is_finite l.line-iterator
    × (map (λ w. w.now) l.lines.items ≡ map (λ w. w.now) l.yielded)
