use Rattle.signed_stream.specs.Status.{ending_of}
use Rattle.signed_stream.proofs.SourceLemmas.{selects_no_more, selects_unread}
use Rattle.signed_stream.proofs.watch_chain.watch_wanted.Goals as goal

pub returns-clause-reads : goal.returns-clause-reads
returns-clause-reads g c = selects_unread c.in-Err.fault (ending_of c.from.result) _ c.from.ensures

pub returns-clause-effects : goal.returns-clause-effects
returns-clause-effects g c = selects_no_more g.D.Disk _ c.in-Err.fault (ending_of c.from.result) _ _ _ c.from.ensures c.in-Err.ensures.named c.select.ensures.same c.select.ensures.count
