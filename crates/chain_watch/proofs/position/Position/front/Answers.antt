use Rattle.std.proofs.lemmas.Result.{err_from_is_err_and}
use Rattle.chain_watch.proofs.WatchLemmas.{front_fails}
use Rattle.chain_watch.proofs.position.Position.front.Goals as goal

pub returns-in_err-frame-in-Ok-Some-clause-finds : goal.returns-in_err-frame-in-Ok-Some-clause-finds
returns-in_err-frame-in-Ok-Some-clause-finds c =
    let exit = err_from_is_err_and c.from_residual.result c.from_residual.ensures.1 in
    let tests = rw c.as_str.ensures.value at c.in_err-frame-in-Ok-Some.ensures.tests in
    let first = rw c.in-Ok-Some.field-0-is at c.in-Ok-Some.ensures.first in
    rw (exit.1, exit.2) (front_fails _ c.args.self.now _ _ _ first.1 tests)
