use Rattle.std.proofs.Common.{◌≡◌, ◌≤◌, ◌-◌, length}
use Rattle.smithy_core.specs.Outside.{IsCutOf}
use Rattle.awsign_chunk.proofs.front.read_front.Given as goal

-- what was read and what is left are all there was
abbrev pub invariant-reads : goal.invariant-reads
invariant-reads g l =
    let source = g.S.ByteSource in
    record {
      cut : IsCutOf (source.left l.fn.content) l.piece.items (source.left l.content);
      within : length l.piece.items ≤ l.size;
      count : source.faults l.content ≡ source.faults l.fn.content;
    }

abbrev pub decreases-reads : goal.decreases-reads
decreases-reads g l = l.size - length l.piece.items
