use Rattle.std.proofs.Common.{ℕ, List, ◌++◌, map}
use Rattle.std.specs.Prelude.{codes}
use Rattle.std.specs.List.{flat_map}
use Rattle.std.specs.Option.{option_copied}
use Rattle.sigv4.specs.Canonical.{given_headers, header_line, with_optional}
use Rattle.sigv4.specs.Digest.{HoldsText}
use Rattle.request_check.proofs.header_lines.push_header_lines.Given as goal

-- the lines of the names so far are handed over
abbrev pub invariant-loop-name : goal.invariant-loop-name
invariant-loop-name l =
    (goal.iterator-loop-name).can_next l.name-iterator × (goal.iterator-loop-name).is_finite l.name-iterator
    × ((front : List ℕ) → HoldsText l.fn.text front
    → HoldsText l.text (front ++ flat_map (header_line (with_optional (codes "host") (option_copied l.host) (given_headers l.headers))) (map (λ w. w.now) l.yielded)))
