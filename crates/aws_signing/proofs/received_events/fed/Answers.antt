use Rattle.std.proofs.Common.{◌∙◌}
use Rattle.std.proofs.lemmas.Result.{err_from_is_err_and}
use Rattle.std.proofs.lemmas.Iterator.Adapters.{YieldsList-from_vec}
use Rattle.std.proofs.lemmas.Iterator.Consumers.{YieldsList-so_far, YieldsList-turn}
use Rattle.aws_signing.proofs.ReceivedLemmas.{refuses, within}
use Rattle.aws_signing.proofs.received_events.fed.Goals as goal

pub returns-in_err-feed-clause-err : goal.returns-in_err-feed-clause-err
returns-in_err-feed-clause-err c =
    let all = c.args.pieces.items in
    let gives = c.into_iter-piece-iterator.ensures.into_iter_gives in
    let runs = YieldsList-from_vec all gives.0 (gives.1 ∙ c.args.pieces.ok.0) in
    let before = YieldsList-so_far runs c.loop-piece.yielded _ c.loop-piece.yielded_by in
    let turn = YieldsList-turn runs c.loop-piece.yielded _ c.loop-piece.yielded_by c.next.result c.next.new.self c.in-Some.piece c.in-Some.is c.next.ensures.steps in
    let long = within all c.loop-piece.yielded c.in-Some.piece before turn.0 turn.1 in
    let exit = err_from_is_err_and c.from_residual.result c.from_residual.ensures.1 in
    rw (exit.1, exit.2) (refuses _ _ c.loop-piece.received c.in-Some.piece _ c.loop-piece.invariant long c.in_err-feed.ensures.0)
