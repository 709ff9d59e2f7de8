use Rattle.std.proofs.Common.{◌≡◌, inl, inr, true, false, List, refl, rules, arith, sym, ◌∙◌}
use Rattle.std.proofs.lemmas.Result.{err_from_is_err_and}
use Rattle.smithy_core.specs.Given.{Gives}
use Rattle.smithy_core.specs.Moment.{Instant}
use Rattle.smithy_core.proofs.GivenLemmas.{given_none}
use Rattle.operation_run.specs.Again.{is_worth_more}
use Rattle.operation_run.specs.Reply.{reply_texts}
use Rattle.operation_run.specs.Steps.{operation_parts}
use Rattle.operation_run.proofs.CourseLemmas.{gives_twice}
use Rattle.operation_run.proofs.OperationLemmas.{ends_with, ends_without, goes_on, going_start}
use Rattle.operation_run.proofs.attempts.run_attempts.Goals as goal

pub loop-number-init : goal.loop-number-init
loop-number-init g c = record {
  parts = refl;
  most = c.most_attempts-most.ensures;
  going = going_start (λ (taken : List Instant). Gives g.C.Clock c.args.clock.now taken c.args.clock.now) (operation_parts c.args.operation.now) c.args.bag.now
      (g.T.Transport.sent c.args.transport.now) (g.T.Transport.replied c.args.transport.now) c.args.moments.now.items (given_none g.C.Clock c.args.clock.now) c.requires;
  steady = refl;
  settled = refl;
}

pub returns-in_err-reply-clause-tried : goal.returns-in_err-reply-clause-tried
returns-in_err-reply-clause-tried g c =
    let exit = err_from_is_err_and c.from_residual.result c.from_residual.ensures.1 in
    let clock = g.C.Clock in
    let transport = g.T.Transport in
    let before = c.loop-number in
    let now = c.attempt.new in
    rw (exit.1, exit.2)
    (ends_without (λ (taken : List Instant). Gives clock c.args.clock.now taken before.clock) (λ (taken : List Instant). Gives clock before.clock taken now.clock)
    (λ (taken : List Instant). Gives clock c.args.clock.now taken now.clock) (gives_twice clock c.args.clock.now before.clock now.clock)
    (transport.sent c.args.transport.now) (transport.sent before.transport) (transport.sent now.transport)
    (transport.replied c.args.transport.now) (transport.replied before.transport) (transport.replied now.transport)
    c.args.moments.now.items before.moments.items now.moments.items (operation_parts c.args.operation.now) c.args.bag.now before.bag now.bag before.number
    before.invariant.going _ (rw before.invariant.parts at c.in_err-reply.ensures.tries))

pub returns-then-not-is_worth_more-clause-tried : goal.returns-then-not-is_worth_more-clause-tried
returns-then-not-is_worth_more-clause-tried g c =
    let clock = g.C.Clock in
    let transport = g.T.Transport in
    let before = c.loop-number in
    let now = c.attempt.new in
    let less : is_worth_more (reply_texts c.in_ok-reply.reply) ≡ false = search rules in
    ends_with (λ (taken : List Instant). Gives clock c.args.clock.now taken before.clock) (λ (taken : List Instant). Gives clock before.clock taken now.clock)
    (λ (taken : List Instant). Gives clock c.args.clock.now taken now.clock) (gives_twice clock c.args.clock.now before.clock now.clock)
    (transport.sent c.args.transport.now) (transport.sent before.transport) (transport.sent now.transport)
    (transport.replied c.args.transport.now) (transport.replied before.transport) (transport.replied now.transport)
    c.args.moments.now.items before.moments.items now.moments.items (operation_parts c.args.operation.now) c.args.bag.now before.bag now.bag before.number
    before.invariant.going (record { attempts = before.number; reply = c.in_ok-reply.reply }) (rw before.invariant.parts at c.in_ok-reply.ensures.tries) refl (inl less)

pub loop-number-preserved : goal.loop-number-preserved
loop-number-preserved g c =
    let clock = g.C.Clock in
    let transport = g.T.Transport in
    let before = c.loop-number in
    let now = c.attempt.new in
    let more : is_worth_more (reply_texts c.in_ok-reply.reply) ≡ true = search rules in
    record {
      parts = c.in_ok-reply.ensures.kept ∙ before.invariant.parts;
      most = before.invariant.most;
      going = goes_on (λ (taken : List Instant). Gives clock c.args.clock.now taken before.clock) (λ (taken : List Instant). Gives clock before.clock taken now.clock)
          (λ (taken : List Instant). Gives clock c.args.clock.now taken now.clock) (gives_twice clock c.args.clock.now before.clock now.clock)
          (transport.sent c.args.transport.now) (transport.sent before.transport) (transport.sent now.transport)
          (transport.replied c.args.transport.now) (transport.replied before.transport) (transport.replied now.transport)
          c.args.moments.now.items before.moments.items now.moments.items (operation_parts c.args.operation.now) c.args.bag.now before.bag now.bag before.number
          before.invariant.going c.in_ok-reply.reply (rw before.invariant.parts at c.in_ok-reply.ensures.tries) more (rw before.invariant.most at c.loop-number-test.true);
      steady = (let same : transport.faults now.transport ≡ transport.faults before.transport = search rules in same ∙ before.invariant.steady);
      settled = c.in_ok-reply.ensures.settled ∙ before.invariant.settled;
    }

pub returns-in_err-reply-2-clause-tried : goal.returns-in_err-reply-2-clause-tried
returns-in_err-reply-2-clause-tried g c =
    let exit = err_from_is_err_and c.from_residual-in_err-reply-2.result c.from_residual-in_err-reply-2.ensures.1 in
    let clock = g.C.Clock in
    let transport = g.T.Transport in
    let before = c.loop-number in
    let now = c.attempt-2.new in
    let last : c.most_attempts-most.result ≡ before.number =
    (let going = before.invariant.going in let still = going.still in let count = going.number_is in let most = before.invariant.most in let test = c.loop-number-test.false in omega (arith, still, count, most, test)) in
    rw (exit.1, exit.2)
    (ends_without (λ (taken : List Instant). Gives clock c.args.clock.now taken before.clock) (λ (taken : List Instant). Gives clock before.clock taken now.clock)
    (λ (taken : List Instant). Gives clock c.args.clock.now taken now.clock) (gives_twice clock c.args.clock.now before.clock now.clock)
    (transport.sent c.args.transport.now) (transport.sent before.transport) (transport.sent now.transport)
    (transport.replied c.args.transport.now) (transport.replied before.transport) (transport.replied now.transport)
    c.args.moments.now.items before.moments.items now.moments.items (operation_parts c.args.operation.now) c.args.bag.now before.bag now.bag before.number
    before.invariant.going _ (rw (last, before.invariant.parts) at c.in_err-reply-2.ensures.tries))

pub returns-clause-tried : goal.returns-clause-tried
returns-clause-tried g c =
    let clock = g.C.Clock in
    let transport = g.T.Transport in
    let before = c.loop-number in
    let now = c.attempt-2.new in
    let last : c.most_attempts-most.result ≡ before.number =
    (let going = before.invariant.going in let still = going.still in let count = going.number_is in let most = before.invariant.most in let test = c.loop-number-test.false in omega (arith, still, count, most, test)) in
    ends_with (λ (taken : List Instant). Gives clock c.args.clock.now taken before.clock) (λ (taken : List Instant). Gives clock before.clock taken now.clock)
    (λ (taken : List Instant). Gives clock c.args.clock.now taken now.clock) (gives_twice clock c.args.clock.now before.clock now.clock)
    (transport.sent c.args.transport.now) (transport.sent before.transport) (transport.sent now.transport)
    (transport.replied c.args.transport.now) (transport.replied before.transport) (transport.replied now.transport)
    c.args.moments.now.items before.moments.items now.moments.items (operation_parts c.args.operation.now) c.args.bag.now before.bag now.bag before.number
    before.invariant.going (record { attempts = c.most_attempts-most.result; reply = c.in_ok-reply-2.reply }) (rw (last, before.invariant.parts) at c.in_ok-reply-2.ensures.tries) last (inr (sym last ∙ before.invariant.most))
