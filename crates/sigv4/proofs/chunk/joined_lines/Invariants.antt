use Rattle.std.proofs.Common.{◌≡◌, map, take}
use Rattle.std.specs.List.{flat_map}
use Rattle.sigv4.specs.Chunk.{borrowed_pair, canonical_trailer_line}
use Rattle.sigv4.proofs.chunk.joined_lines.Given as goal

abbrev pub invariant-loop-name : goal.invariant-loop-name
invariant-loop-name l = l.lines.items ≡ flat_map canonical_trailer_line (map borrowed_pair (take l.name-index l.trailers))
