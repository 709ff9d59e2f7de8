use Rattle.std.proofs.Common.{◌≡◌, ◌++◌, length}
use Rattle.chunk_watch.specs.Trailers.{plain_after, plain_lines}
use Rattle.chunk_watch.proofs.trailers.plain_lines.Given as goal

-- the bytes so far, and those of the rest, are all
abbrev pub invariant-loop-byte : goal.invariant-loop-byte
invariant-loop-byte l = l.plain.items ++ plain_after l.before l.rest ≡ plain_lines l.bytes

abbrev pub decreases-loop-byte : goal.decreases-loop-byte
decreases-loop-byte l = length l.rest
