use Rattle.std.proofs.Common.{arith}
use Rattle.eventstream.proofs.laws.know_headers.Goals as goal

pub returns : goal.returns
returns c k d within = c.loop-header.invariant k d (omega arith) (omega arith)
