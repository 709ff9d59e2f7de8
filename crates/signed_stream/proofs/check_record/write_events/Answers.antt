use Rattle.std.proofs.lemmas.Result.{err_from_is_err_and}
use Rattle.signed_stream.specs.EventLines.{event_lines}
use Rattle.signed_stream.specs.CheckRecord.{shown_events}
use Rattle.signed_stream.specs.Status.{stream_ending}
use Rattle.signed_stream.proofs.CheckLemmas.{count_ended_early, count_sent}
use Rattle.signed_stream.proofs.EventLineLemmas.{last_sent}
use Rattle.signed_stream.proofs.check_record.write_events.Goals as goal

pub returns-in_err-write_count-clause-sends : goal.returns-in_err-write_count-clause-sends
returns-in_err-write_count-clause-sends g c =
    let exit = err_from_is_err_and c.from_residual.result c.from_residual.ensures.1 in
    rw (exit.1, exit.2)
    (count_ended_early (g.K.ByteSink.held c.args.out.now) (g.K.ByteSink.held c.write_count.new.out) c.args.events.now (stream_ending c.in_err-write_count.field-0.0) c.in_err-write_count.ensures.sends)

pub returns-clause-sends : goal.returns-clause-sends
returns-clause-sends g c =
    last_sent (g.K.ByteSink.held c.args.out.now) (g.K.ByteSink.held c.write_count.new.out) (g.K.ByteSink.held c.write_lines.new.out) (event_lines c.args.events.now) (shown_events c.args.events.now) c.write_lines.result
    (count_sent (g.K.ByteSink.held c.args.out.now) (g.K.ByteSink.held c.write_count.new.out) c.args.events.now c.in_ok-write_count.ensures.sends.1) c.write_lines.ensures.sends
