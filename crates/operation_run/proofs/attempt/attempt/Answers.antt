use Rattle.std.proofs.Common.{List, Some, refl}
use Rattle.std.proofs.lemmas.Result.{err_from_is_err_and}
use Rattle.smithy_core.specs.Given.{Gives}
use Rattle.smithy_core.specs.Moment.{Instant}
use Rattle.smithy_core.proofs.GivenLemmas.{given_none}
use Rattle.operation_run.specs.Steps.{operation_parts}
use Rattle.operation_run.proofs.AttemptLemmas.{stopped_at_once}
use Rattle.operation_run.proofs.attempt.attempt.Goals as goal

pub returns-in_err-request-clause-tries : goal.returns-in_err-request-clause-tries
returns-in_err-request-clause-tries g c =
    let exit = err_from_is_err_and c.from_residual-in_err-request.result c.from_residual-in_err-request.ensures.1 in
    let bag = record c.args.bag.now { attempts = Some c.args.number } in
    rw (exit.1, exit.2)
    (stopped_at_once (λ (taken : List Instant). Gives g.C.Clock c.args.clock.now taken c.args.clock.now) (operation_parts c.args.operation.now) bag bag (g.T.Transport.sent c.args.transport.now) (g.T.Transport.replied c.args.transport.now)
    c.args.moments.now.items c.reserve.new.self.items (given_none g.C.Clock c.args.clock.now) c.in_ok-reserve.ensures.items refl)
