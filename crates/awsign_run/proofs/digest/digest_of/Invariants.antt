use Rattle.std.proofs.Common.{◌≡◌}
use Rattle.awsign_run.proofs.DigestLemmas.{HoldsRead}
use Rattle.awsign_run.proofs.digest.digest_of.Given as goal

-- the hasher holds what was read, and no read failed
abbrev pub invariant-reads : goal.invariant-reads
invariant-reads g l =
    let source = g.S.ByteSource in HoldsRead l._read (source.left l.fn.source) (source.left l.source) l.hasher × (source.faults l.source ≡ source.faults l.fn.source)
