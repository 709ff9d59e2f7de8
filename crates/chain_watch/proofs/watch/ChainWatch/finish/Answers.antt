use Rattle.std.proofs.lemmas.Result.{err_from_is_err_and}
use Rattle.chain_watch.proofs.WatchLemmas.{finishes_failed}
use Rattle.chain_watch.proofs.watch.ChainWatch.finish.Goals as goal

pub returns-in_err-go_on : goal.returns-in_err-go_on
returns-in_err-go_on c =
    let exit = err_from_is_err_and c.from_residual.result c.from_residual.ensures.1 in
    rw (exit.1, exit.2) (finishes_failed _ _ _ _ _ c.in_err-go_on.ensures.goes c.in_err-go_on.ensures.answer)
