use Rattle.std.proofs.Common.{lit<}
use Rattle.std.proofs.lemmas.Iterator.Consumers.{YieldsList-end}
use Rattle.std.proofs.lemmas.Iterator.Splits.{YieldsList-from_str_split}
use Rattle.sigv4.specs.Path.{norm}
use Rattle.sigv4.proofs.path.normalize_uri_path.Goals as goal

pub returns : goal.returns
unfolding norm
returns c =
    let all = YieldsList-end (YieldsList-from_str_split 47 c.args.path.now (lit< tt) (cc) (cc) (cc)) c.loop-segment.yielded _ c.loop-segment.yielded_by _ _ c.in-None.is c.next.ensures.steps in
    rw (← all.0, ← c.loop-segment.invariant.2, ← c.loop-segment.invariant.3, ← c.deref.ensures.value) c.join_segments.ensures
