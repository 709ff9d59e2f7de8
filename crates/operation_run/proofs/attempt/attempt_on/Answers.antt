use Rattle.smithy_core.specs.Given.{Gives}
use Rattle.smithy_core.specs.Moment.{Instant}
use Rattle.std.proofs.Common.{List}
use Rattle.operation_run.specs.Reply.{request_texts}
use Rattle.operation_run.specs.Steps.{operation_parts}
use Rattle.operation_run.proofs.AttemptLemmas.{tries_both}
use Rattle.operation_run.proofs.CourseLemmas.{gives_twice}
use Rattle.operation_run.proofs.attempt.attempt_on.Goals as goal

pub returns-clause-tries : goal.returns-clause-tries
returns-clause-tries g c =
    let prepared = c.in_ok-prepare.ensures.prepares in
    let clock = g.C.Clock in
    let transport = g.T.Transport in
    tries_both (λ (taken : List Instant). Gives clock c.args.clock.now taken c.prepare.new.clock) (λ (taken : List Instant). Gives clock c.prepare.new.clock taken c.exchange.new.clock)
    (λ (taken : List Instant). Gives clock c.args.clock.now taken c.exchange.new.clock) (gives_twice clock c.args.clock.now c.prepare.new.clock c.exchange.new.clock)
    (operation_parts c.args.operation.now) c.args.bag.now c.exchange.new.bag (transport.sent c.args.transport.now) (transport.sent c.exchange.new.transport)
    (transport.replied c.args.transport.now) (transport.replied c.exchange.new.transport) c.args.moments.now.items c.prepare.new.moments.items c.exchange.new.moments.items
    prepared.0 (request_texts c.prepare.new.request) prepared.1 prepared.2 c.exchange.result (rw c.in_ok-prepare.ensures.bag at c.exchange.ensures.exchanges)
