use Rattle.std.proofs.Common.{◌≡◌, List, inl, ap, ◌∙◌}
use Rattle.std.specs.Prelude.{pos}
use Rattle.std.proofs.lemmas.Result.{err_from_is_err_and}
use Rattle.smithy_core.specs.Given.{Gives}
use Rattle.smithy_core.specs.Moment.{Instant}
use Rattle.smithy_core.proofs.GivenLemmas.{given_none}
use Rattle.aws_intercept.specs.ClockSkew.{bag_with_kept}
use Rattle.operation_run.specs.Attempts.{begun_bag}
use Rattle.operation_run.proofs.OperateLemmas.{no_attempt, same_most}
use Rattle.operation_run.proofs.attempts.operate.Goals as goal

pub returns-in_err-try_clone-clause-operates : goal.returns-in_err-try_clone-clause-operates
returns-in_err-try_clone-clause-operates g c =
    let exit = err_from_is_err_and c.from_residual-in_err-try_clone.result c.from_residual-in_err-try_clone.ensures.1 in
    let stored = c.in_ok-modify_before_retry_loop.ensures in
    let is : c.modify_before_retry_loop-2.new.bag ≡ begun_bag c.args.bag.now stored.0 =
    c.modify_before_retry_loop-2.ensures.bag ∙ ap (λ kept. bag_with_kept kept c.modify_before_retry_loop.new.bag) c.new-skew.ensures ∙ ap (bag_with_kept (pos 0)) stored.2 in
    rw (exit.1, exit.2)
    (inl (
      stored.0,
      stored.1,
      no_attempt (λ (taken : List Instant). Gives g.C.Clock c.args.clock.now taken c.args.clock.now) _ (begun_bag c.args.bag.now stored.0) c.modify_before_retry_loop-2.new.bag
          (g.T.Transport.sent c.args.transport.now) (g.T.Transport.replied c.args.transport.now) c.args.moments.now.items (given_none g.C.Clock c.args.clock.now) (rw (same_most c.args.bag.now stored.0) c.requires.most) is,
    ))
