-- A canonical text is what its lines are, whichever of them are joined first.
use Rattle.std.proofs.Common.{◌≡◌, ℕ, List, [], ◌++◌, append_assoc}
use Rattle.smithy_core.specs.Text.{line}
use Rattle.sigv4.specs.Canonical.{canonical_lines}

pub lines_joined : (method path query lines names payload first second third : List ℕ) → first ≡ line method ++ line path ++ line query
    → second ≡ first ++ lines → third ≡ second ++ line [] ++ line names ++ payload → third ≡ canonical_lines method path query lines names payload
lines_joined method path query lines names payload first second third head more tail = simp (tail, more, head, append_assoc)
