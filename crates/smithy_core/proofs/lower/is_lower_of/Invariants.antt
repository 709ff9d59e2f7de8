use Rattle.std.proofs.Common.{◌≡◌, drop}
use Rattle.std.specs.Prelude.{bytes_eq}
use Rattle.smithy_core.specs.TextPairs.{lower}
use Rattle.smithy_core.proofs.lower.is_lower_of.Given as goal

-- the bytes that passed are the same
abbrev pub invariant-loop-at : goal.invariant-loop-at
invariant-loop-at l = bytes_eq l.text (lower l.name) ≡ bytes_eq (drop l.at l.text) (lower (drop l.at l.name))
