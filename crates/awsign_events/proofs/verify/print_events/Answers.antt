use Rattle.std.proofs.Common.{◌++◌, ◌+◌, List, append-nil, drop, refl, subst, sym, take, ◌∙◌}
use Rattle.std.proofs.lemmas.Result.{err_from_is_err_and}
use Rattle.smithy_core.specs.Message.{Parts}
use Rattle.awsign_events.specs.VerifyEvents.{PrintsUpTo}
use Rattle.awsign_events.proofs.VerifyLemmas.{cut_behind, prints_one, prints_stop, taken_behind}
use Rattle.awsign_events.proofs.verify.print_events.Goals as goal

pub events-init : goal.events-init
events-init g c = record {
  prints = λ first before shown. subst (λ (events : List Parts). PrintsUpTo c.args.form events c.args.place before (g.K.ByteSink.held c.args.out.now)) (sym (append-nil first)) shown;
  writes = refl;
}

pub returns-in_err-write_message-clause-prints : goal.returns-in_err-write_message-clause-prints
returns-in_err-write_message-clause-prints g c =
    let sink = g.K.ByteSink in
    let exit = err_from_is_err_and c.from_residual.result c.from_residual.ensures.1 in
    let events = c.args.events.now in
    let i = c.events.event-index in
    λ first before shown. rw (exit.1, exit.2)
    (prints_stop c.args.form (first ++ take i events) c.event-item.result c.events.next before (sink.held c.events.out) (sink.held c.write_message.new.out) (c.events.invariant.prints first before shown)
    (drop (i + 1) events) (first ++ events) (cut_behind first events i c.event-item.result c.events-test.true c.event-item.is) c.in_err-write_message.field-0.0 c.in_err-write_message.ensures.wrote)

pub events-preserved : goal.events-preserved
events-preserved g c =
    let sink = g.K.ByteSink in
    let events = c.args.events.now in
    let i = c.events.event-index in
    record {
      prints =
          λ first before shown.
          rw (taken_behind first events i c.event-item.result c.events-test.true c.event-item.is)
          (prints_one c.args.form (first ++ take i events) c.event-item.result c.events.next before (sink.held c.events.out) (sink.held c.write_message.new.out) (c.events.invariant.prints first before shown)
          _ c.saturating_add-next.ensures c.in_ok-write_message.ensures.wrote);
      writes = c.in_ok-write_message.ensures.failed.stayed (λ is. let wrong = is in cc) ∙ c.events.invariant.writes;
    }
