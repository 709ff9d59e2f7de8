use Rattle.std.proofs.Common.{◌≡◌, ◌++◌, map}
use Rattle.sigv4.specs.Chunk.{borrowed_pair}
use Rattle.sigv4.proofs.chunk.listed.Given as goal

abbrev pub invariant-loop-name : goal.invariant-loop-name
invariant-loop-name l = map borrowed_pair l.trailers.items ++ l.name-iterator ≡ l.headers
