use Rattle.std.proofs.Common.{◌≡◌, ◌≤◌, ◌++◌, length}
use Rattle.aws_chunked.specs.Text.{length_text}
use Rattle.aws_chunked.proofs.decode.length.read_length.Given as goal

abbrev pub invariant-loop-byte : goal.invariant-loop-byte
invariant-loop-byte l = record { most : l.length ≤ l.most; read : l.bytes ≡ length_text l.length ++ l.rest }

abbrev pub decreases-loop-byte : goal.decreases-loop-byte
decreases-loop-byte l = length l.rest
