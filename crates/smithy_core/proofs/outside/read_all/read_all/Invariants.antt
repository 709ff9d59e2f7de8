use Rattle.std.proofs.Common.{◌≡◌, ◌+◌, ◌-◌, vec_len}
use Rattle.smithy_core.specs.Outside.{IsCutOf}
use Rattle.smithy_core.proofs.outside.read_all.read_all.Given as goal

-- what was read and what is left are all there was
abbrev pub invariant-reads : goal.invariant-reads
invariant-reads g l =
    let source = g.S.ByteSource in
    record {
      cut : IsCutOf (source.left l.fn.source) l.bytes.items (source.left l.source);
      count : source.faults l.source ≡ source.faults l.fn.source;
    }

abbrev pub decreases-reads : goal.decreases-reads
decreases-reads g l = l.limit + 1 - vec_len l.bytes
