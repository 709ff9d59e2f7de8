use Rattle.std.proofs.Common.{lit<}
use Rattle.std.proofs.lemmas.Iterator.Consumers.{YieldsList-end}
use Rattle.std.proofs.lemmas.Iterator.Splits.{YieldsList-from_str_split}
use Rattle.awsign_run.proofs.guess.last_service.Goals as goal

pub returns : goal.returns
returns c =
    let all = YieldsList-end (YieldsList-from_str_split 46 c.args.name.now (lit< tt) (cc) (cc) (cc)) c.loop-label.yielded _ c.loop-label.yielded_by _ _ c.in-None.is c.next.ensures.steps in
    rw (← all.0) c.loop-label.invariant.2
