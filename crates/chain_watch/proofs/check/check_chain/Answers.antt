use Rattle.std.proofs.Common.{Ok, Err, arith}
use Rattle.std.proofs.lemmas.List.Elements.{All-from_get_or}
use Rattle.std.proofs.lemmas.Result.{err_from_is_err_and}
use Rattle.chain_watch.specs.Chain.{IsByte}
use Rattle.chain_watch.proofs.AcceptedLemmas.{tells_chain}
use Rattle.chain_watch.proofs.CallLemmas.{check_ends, check_fails}
use Rattle.chain_watch.proofs.check.check_chain.Goals as goal

pub returns-in_err-feed-clause-answer : goal.returns-in_err-feed-clause-answer
returns-in_err-feed-clause-answer c =
    let exit = err_from_is_err_and c.from_residual-in_err-feed.result c.from_residual-in_err-feed.ensures.1 in
    let feeds = rw (c.in_ok-watch.ensures, c.in_ok-copy_from_slice.ensures, c.new-events.ensures.items) at c.in_err-feed.ensures.feeds in
    rw (exit.1, exit.2) (check_fails _ _ _ _ _ _ feeds)

pub returns-in_err-feed-clause-exact : goal.returns-in_err-feed-clause-exact
returns-in_err-feed-clause-exact c =
    let exit = err_from_is_err_and c.from_residual-in_err-feed.result c.from_residual-in_err-feed.ensures.1 in
    let feeds = rw (c.in_ok-watch.ensures, c.in_ok-copy_from_slice.ensures, c.new-events.ensures.items) at c.in_err-feed.ensures.feeds in
    let small = All-from_get_or IsByte c.args.bytes.now 0 (λ i inside. let fits = c.type_inv.bytes i in omega arith) in
    rw (exit.1, exit.2) (tells_chain _ _ c.args.bytes.now (Err _) small (check_fails _ _ _ _ _ _ feeds))

pub returns-in_err-finish-clause-answer : goal.returns-in_err-finish-clause-answer
returns-in_err-finish-clause-answer c =
    let exit = err_from_is_err_and c.from_residual-in_err-finish.result c.from_residual-in_err-finish.ensures.1 in
    let feeds = rw (c.in_ok-watch.ensures, c.in_ok-copy_from_slice.ensures, c.new-events.ensures.items) at c.in_ok-feed.ensures.feeds in
    rw (exit.1, exit.2) (check_ends _ _ _ _ _ _ _ (Err _) feeds c.in_err-finish.ensures)

pub returns-in_err-finish-clause-exact : goal.returns-in_err-finish-clause-exact
returns-in_err-finish-clause-exact c =
    let exit = err_from_is_err_and c.from_residual-in_err-finish.result c.from_residual-in_err-finish.ensures.1 in
    let feeds = rw (c.in_ok-watch.ensures, c.in_ok-copy_from_slice.ensures, c.new-events.ensures.items) at c.in_ok-feed.ensures.feeds in
    let small = All-from_get_or IsByte c.args.bytes.now 0 (λ i inside. let fits = c.type_inv.bytes i in omega arith) in
    rw (exit.1, exit.2) (tells_chain _ _ c.args.bytes.now (Err _) small (check_ends _ _ _ _ _ _ _ (Err _) feeds c.in_err-finish.ensures))

pub returns-clause-answer : goal.returns-clause-answer
returns-clause-answer c =
    let feeds = rw (c.in_ok-watch.ensures, c.in_ok-copy_from_slice.ensures, c.new-events.ensures.items) at c.in_ok-feed.ensures.feeds in
    check_ends _ _ _ _ _ _ _ (Ok tt) feeds c.in_ok-finish.ensures

pub returns-clause-exact : goal.returns-clause-exact
returns-clause-exact c =
    let feeds = rw (c.in_ok-watch.ensures, c.in_ok-copy_from_slice.ensures, c.new-events.ensures.items) at c.in_ok-feed.ensures.feeds in
    let small = All-from_get_or IsByte c.args.bytes.now 0 (λ i inside. let fits = c.type_inv.bytes i in omega arith) in
    tells_chain _ _ c.args.bytes.now (Ok c.finish.new.events) small (check_ends _ _ _ _ _ _ _ (Ok tt) feeds c.in_ok-finish.ensures)
