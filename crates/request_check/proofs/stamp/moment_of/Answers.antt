use Rattle.std.proofs.Common.{sym, true≢false}
use Rattle.request_check.proofs.StampLemmas.{dated_signed}
use Rattle.request_check.proofs.stamp.moment_of.Goals as goal

pub returns-in-Err : goal.returns-in-Err
returns-in-Err c = λ t is same. absurd (true≢false (sym (rw c.in-Err.is at (c.new.ensures.succeeds.1 (dated_signed c.args.civil c.requires t is same)))))
