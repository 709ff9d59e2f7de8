use Rattle.std.proofs.Common.{refl, arith}
use Rattle.std.proofs.lemmas.Result.{err_from_is_err_and}
use Rattle.signed_stream.specs.Status.{ending_of}
use Rattle.signed_stream.proofs.ProgressLemmas.{stops_front, stops_roomless, takes_shown}
use Rattle.signed_stream.proofs.WaitLemmas.{idle_few}
use Rattle.signed_stream.proofs.watch_chain.Progress.take.Goals as goal

pub returns-in_err-extend_from_slice-clause-takes : goal.returns-in_err-extend_from_slice-clause-takes
returns-in_err-extend_from_slice-clause-takes g c =
    let exit = err_from_is_err_and c.from_residual.result c.from_residual.ensures.1 in
    rw (exit.1, exit.2) (stops_roomless c.args.self.now c.args.piece.now (g.K.ByteSink.held c.args.out.now))

pub returns-in_err-show_waiting-clause-takes : goal.returns-in_err-show_waiting-clause-takes
returns-in_err-show_waiting-clause-takes g c =
    let exit = err_from_is_err_and c.from_residual-in_err-show_waiting.result c.from_residual-in_err-show_waiting.ensures.1 in
    rw (exit.1, exit.2)
    (stops_front c.args.self.now (record c.args.self.now { waiting = c.extend_from_slice.new.self }) c.args.piece.now _ (ending_of c.in_err-show_waiting.field-0.0) (g.K.ByteSink.held c.args.out.now) (g.K.ByteSink.held c.show_waiting.new.out)
    (omega (arith, c.fed.ensures, c.len.ensures)) refl c.in_ok-extend_from_slice.ensures.items c.in_err-show_waiting.ensures.shows)

pub returns-in_err-extend_from_slice-2-clause-takes : goal.returns-in_err-extend_from_slice-2-clause-takes
returns-in_err-extend_from_slice-2-clause-takes g c =
    let exit = err_from_is_err_and c.from_residual-in_err-extend_from_slice-2.result c.from_residual-in_err-extend_from_slice-2.ensures.1 in
    rw (exit.1, exit.2) (stops_roomless c.args.self.now c.args.piece.now (g.K.ByteSink.held c.args.out.now))

pub returns-clause-takes : goal.returns-clause-takes
returns-clause-takes g c =
    takes_shown c.args.self.now _ c.show_waiting-2.new.self c.args.piece.now (g.K.ByteSink.held c.args.out.now) (g.K.ByteSink.held c.show_waiting-2.new.out) c.show_waiting-2.result refl refl
    c.in_ok-extend_from_slice-2.ensures.items (omega (arith, c.if-piece-room.false, c.fed.ensures, c.len.ensures)) c.show_waiting-2.ensures.shows

pub returns-then-len-wanted-clause-idle : goal.returns-then-len-wanted-clause-idle
returns-then-len-wanted-clause-idle g c =
    idle_few (record c.args.self.now { waiting = c.extend_from_slice-2.new.self }) c.requires.current
    (omega (arith, c.len-2.ensures, c.wanted.ensures, c.if-len-wanted.true, c.extend_from_slice-2.new.self.ok.0))
