use Rattle.std.proofs.Common.{◌≡◌, ◌↔◌, drop}
use Rattle.mac_core.proofs.same.differences.Given as goal

-- there are no differences so far, and what is left is the same, exactly where the texts are
abbrev pub invariant-loop-index : goal.invariant-loop-index
invariant-loop-index l = ((l.differences ≡ 0) × (drop l.index l.first ≡ drop l.index l.second)) ↔ (l.first ≡ l.second)
