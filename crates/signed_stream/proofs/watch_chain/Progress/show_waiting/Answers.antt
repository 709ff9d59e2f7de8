use Rattle.std.proofs.Common.{[], length, ap, refl, arith}
use Rattle.std.proofs.lemmas.Result.{err_from_is_err_and}
use Rattle.signed_stream.proofs.ProgressLemmas.{fit_shown, stops_early, stops_unwritten, waiting_framed}
use Rattle.signed_stream.specs.WatchChain.{walk_with}
use Rattle.signed_stream.proofs.watch_chain.Progress.show_waiting.Goals as goal

pub returns-in_err-fault-clause-shows : goal.returns-in_err-fault-clause-shows
returns-in_err-fault-clause-shows g c =
    let exit = err_from_is_err_and c.from_residual.result c.from_residual.ensures.1 in
    rw (exit.1, exit.2) (stops_early (walk_with c.args.self.now []) (g.K.ByteSink.held c.args.out.now))

pub write_lines-requires : goal.write_lines-requires
write_lines-requires g c =
    rw c.as_slice.ensures.value (waiting_framed c.args.self.now c.feed_waiting.new.self c.feed_waiting.new.events.items c.in_ok-fault.fault c.in_ok-fault.ensures)

pub returns-in_err-write_lines-clause-shows : goal.returns-in_err-write_lines-clause-shows
returns-in_err-write_lines-clause-shows g c =
    let exit = err_from_is_err_and c.from_residual-in_err-write_lines.result c.from_residual-in_err-write_lines.ensures.1 in
    let sends = rw c.as_slice.ensures.value at c.in_err-write_lines.ensures.sends in
    rw (exit.1, exit.2)
    (stops_unwritten c.args.self.now c.feed_waiting.new.self c.feed_waiting.new.events.items c.in_ok-fault.fault (g.K.ByteSink.held c.args.out.now) (g.K.ByteSink.held c.write_lines.new.out)
    c.in_err-write_lines.field-0.0 c.in_ok-fault.ensures sends)

pub returns-clause-fit : goal.returns-clause-fit
returns-clause-fit g c =
    let walks = rw c.in-None.is at c.in_ok-fault.ensures in
    fit_shown c.args.self.now c.feed_waiting.new.self _ c.feed_waiting.new.events.items c.requires walks refl refl (omega (arith, c.len.ensures, c.as_slice.ensures.len, ap length c.as_slice.ensures.value))
