use Rattle.std.proofs.Common.{◌≡◌, ◌++◌, take}
use Rattle.aws_chunked.proofs.decode.expecting.expect.Given as goal

abbrev pub invariant-loop-byte : goal.invariant-loop-byte
invariant-loop-byte l = l.bytes ≡ take l.byte-index l.wanted ++ l.rest
