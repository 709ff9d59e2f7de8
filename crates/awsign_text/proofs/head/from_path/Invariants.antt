use Rattle.std.proofs.Common.{◌≡◌, length}
use Rattle.awsign_text.specs.Head.{from_path}
use Rattle.awsign_text.proofs.head.from_path.Given as goal

-- the rest of the text has the same path
abbrev pub invariant-loop-rest : goal.invariant-loop-rest
invariant-loop-rest l = from_path l.rest ≡ from_path l.text

abbrev pub decreases-loop-rest : goal.decreases-loop-rest
decreases-loop-rest l = length l.rest
