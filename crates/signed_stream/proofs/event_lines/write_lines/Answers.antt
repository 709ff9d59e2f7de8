use Rattle.std.proofs.Common.{refl, ◌∙◌}
use Rattle.std.proofs.lemmas.Result.{err_from_is_err_and}
use Rattle.signed_stream.specs.EventLines.{event_lines}
use Rattle.signed_stream.specs.Status.{stream_ending}
use Rattle.signed_stream.proofs.EventLineLemmas.{event_ended_early, event_sent, events_begin}
use Rattle.signed_stream.proofs.event_lines.write_lines.Goals as goal

pub events-init : goal.events-init
events-init g c = record { goes_on = events_begin (g.K.ByteSink.held c.args.out.now) c.args.events.now; steady = refl }

pub returns-in_err-write_event-clause-sends : goal.returns-in_err-write_event-clause-sends
returns-in_err-write_event-clause-sends g c =
    let exit = err_from_is_err_and c.from_residual.result c.from_residual.ensures.1 in
    rw (exit.1, exit.2)
    (event_ended_early (g.K.ByteSink.held c.args.out.now) (g.K.ByteSink.held c.events.out) (g.K.ByteSink.held c.write_event.new.out) c.args.events.now c.events.event-index c.event-item.result (event_lines c.args.events.now)
    (stream_ending c.in_err-write_event.field-0.0) c.events-test.true c.event-item.is c.events.invariant.goes_on c.in_err-write_event.ensures.sends)

pub events-preserved : goal.events-preserved
events-preserved g c = record {
  goes_on = event_sent (g.K.ByteSink.held c.args.out.now) (g.K.ByteSink.held c.events.out) (g.K.ByteSink.held c.write_event.new.out) c.args.events.now c.events.event-index c.event-item.result
      (event_lines c.args.events.now) c.events-test.true c.event-item.is c.events.invariant.goes_on c.in_ok-write_event.ensures.sends.1;
  steady = c.in_ok-write_event.ensures.counts.stayed (λ e. cc) ∙ c.events.invariant.steady;
}
