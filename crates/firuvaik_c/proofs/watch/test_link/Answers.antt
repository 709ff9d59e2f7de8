use Rattle.std.proofs.Common.{Ok, Err}
use Rattle.firuvaik_c.proofs.WatchLemmas.{feeds_tested, tests_one, tests_passed}
use Rattle.firuvaik_c.proofs.watch.test_link.Goals as goal

pub returns-in-Ok : goal.returns-in-Ok
returns-in-Ok c message first =
    let feeds = rw (c.in_ok-watch.ensures, c.new-events.ensures.items) at c.in-Ok.ensures.feeds in
    tests_passed _ c.in-Ok.field-0 tt (feeds_tested _ _ c.args.frame message _ _ (Ok c.in-Ok.field-0) first feeds)

pub returns : goal.returns
returns c message first =
    let feeds = rw (c.in_ok-watch.ensures, c.new-events.ensures.items) at c.in-Err.ensures.feeds in
    tests_one _ c.in-Err.fault _ (feeds_tested _ _ c.args.frame message _ _ (Err c.in-Err.fault) first feeds) c.fault_of_chain.ensures
