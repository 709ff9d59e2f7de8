use Rattle.std.proofs.Common.{◌≡◌, map, take}
use Rattle.smithy_core.specs.TextPairs.{lower_name}
use Rattle.aws_chunked.proofs.decode.trailers.headers_of.Given as goal

abbrev pub invariant-loop-name : goal.invariant-loop-name
invariant-loop-name l = l.trailers ≡ map lower_name (take l.name-index l.lines)
