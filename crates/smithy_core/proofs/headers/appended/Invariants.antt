use Rattle.std.proofs.Common.{◌≡◌, map, take}
use Rattle.smithy_core.specs.TextPairs.{lower_name}
use Rattle.smithy_core.proofs.headers.appended.Given as goal

-- the pairs that passed are appended
abbrev pub invariant-loop-name : goal.invariant-loop-name
invariant-loop-name l = l.headers ≡ map lower_name (take l.name-index l.pairs)
