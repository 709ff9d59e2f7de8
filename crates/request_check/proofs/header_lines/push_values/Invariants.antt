use Rattle.std.proofs.Common.{◌≡◌, ℕ, List, ◌++◌, true}
use Rattle.smithy_core.specs.TextPairs.{named_values}
use Rattle.sigv4.specs.Canonical.{given_headers}
use Rattle.sigv4.specs.Digest.{HoldsText}
use Rattle.request_check.specs.HeaderLines.{values_to_come}
use Rattle.request_check.proofs.header_lines.push_values.Given as goal

-- the values so far are handed over, and with those to come they are all
abbrev pub invariant-loop-key : goal.invariant-loop-key
invariant-loop-key l =
    (front : List ℕ) → HoldsText l.fn.text front → (now : List ℕ) × HoldsText l.text now
    × (now ++ values_to_come l.is_first (named_values (given_headers l.key-iterator) l.name)
    ≡ front ++ values_to_come true (named_values (given_headers l.headers) l.name))
