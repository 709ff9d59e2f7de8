use Rattle.std.proofs.Common.{◌≡◌, ◌++◌, length, map}
use Rattle.std.specs.List.{AllByRecursion, flat_map}
use Rattle.aws_chunked.specs.Decoded.{IsTrailer}
use Rattle.aws_chunked.specs.TailRests.{pair_texts}
use Rattle.aws_chunked.specs.Text.{trailer_line}
use Rattle.aws_chunked.proofs.decode.trailer_lines.read_lines.Given as goal

abbrev pub invariant-loop-rest : goal.invariant-loop-rest
invariant-loop-rest l = record {
  are : AllByRecursion IsTrailer (map pair_texts l.lines.items);
  read : l.bytes ≡ flat_map trailer_line (map pair_texts l.lines.items) ++ l.rest;
}

abbrev pub decreases-loop-rest : goal.decreases-loop-rest
decreases-loop-rest l = length l.rest
