use Rattle.std.proofs.Common.{[], ◌++◌, take, Ok, ap, refl, ◌∙◌, arith}
use Rattle.std.proofs.lemmas.Result.{err_from_is_err_and}
use Rattle.smithy_core.proofs.CutLemmas.{cut_at_start, cut_more}
use Rattle.signed_stream.specs.Status.{ending_of}
use Rattle.signed_stream.proofs.ProgressLemmas.{advances_join, advances_nothing, no_more, reads_failed, reads_shown, reads_stopped}
use Rattle.signed_stream.proofs.WaitLemmas.{idle_none}
use Rattle.signed_stream.proofs.watch_chain.Progress.read.Goals as goal

pub pieces-init : goal.pieces-init
pieces-init g c = record {
  room = omega arith;
  fit = c.requires.fits;
  idle = idle_none c.args.self.now c.requires.fits.current c.requires.begins.empty;
  taken = ([], cut_at_start (g.S.ByteSource.left c.args.input.now), advances_nothing c.args.self.now (g.K.ByteSink.held c.args.out.now));
  reads = refl;
  writes = refl;
}

pub returns-in-Ok-eq0-clause-reads : goal.returns-in-Ok-eq0-clause-reads
returns-in-Ok-eq0-clause-reads g c =
    let source = g.S.ByteSource in
    let sink = g.K.ByteSink in
    let so_far = c.pieces.invariant.taken in
    let at_end = c.in-Ok-eq0.ensures.at_end in
    let cut = cut_more (source.left c.args.input.now) so_far.0 (source.left c.pieces.input) (source.left c.read.new.self) c.in-Ok-eq0.field-0 c.read.new.into so_far.1 c.in-Ok-eq0.ensures.taken in
    reads_shown c.args.self.now c.pieces.self c.show_waiting.new.self so_far.0 (source.left c.args.input.now) (source.left c.read.new.self) (sink.held c.args.out.now) (sink.held c.pieces.out)
    (sink.held c.show_waiting.new.out) c.show_waiting.result c.requires.begins c.pieces.invariant.fit so_far.2 (no_more (source.left c.args.input.now) so_far.0 c.in-Ok-eq0.field-0 c.read.new.into (source.left c.read.new.self) c.in-Ok-eq0.field-0-test cut)
    (at_end (ap Ok c.in-Ok-eq0.field-0-test) c.pieces.invariant.room) c.show_waiting.ensures.shows

pub pieces-preserved : goal.pieces-preserved
pieces-preserved g c =
    let source = g.S.ByteSource in
    let sink = g.K.ByteSink in
    let so_far = c.pieces.invariant.taken in
    let piece = take c.in-Ok.n c.read.new.into in
    record {
      room = rw c.read.auto.into c.pieces.invariant.room;
      fit = c.in_ok-take-in-Ok.ensures.fit;
      idle = c.in_ok-take-in-Ok.ensures.idle;
      taken = (
        so_far.0 ++ piece,
        cut_more (source.left c.args.input.now) so_far.0 (source.left c.pieces.input) (source.left c.read.new.self) c.in-Ok.n c.read.new.into so_far.1 c.in-Ok.ensures.taken,
        advances_join c.args.self.now c.pieces.self c.take.new.self so_far.0 piece (sink.held c.args.out.now) (sink.held c.pieces.out) (sink.held c.take.new.out) so_far.2 c.in_ok-take-in-Ok.ensures.takes,
      );
      reads = c.in-Ok.ensures.steady ∙ c.pieces.invariant.reads;
      writes = c.in_ok-take-in-Ok.ensures.writes ∙ c.pieces.invariant.writes;
    }

pub returns-in_err-take-in-Ok-clause-reads : goal.returns-in_err-take-in-Ok-clause-reads
returns-in_err-take-in-Ok-clause-reads g c =
    let source = g.S.ByteSource in
    let sink = g.K.ByteSink in
    let so_far = c.pieces.invariant.taken in
    let piece = take c.in-Ok.n c.read.new.into in
    let exit = err_from_is_err_and c.from_residual.result c.from_residual.ensures.1 in
    rw (exit.1, exit.2)
    (reads_stopped c.args.self.now c.pieces.self so_far.0 piece (source.left c.args.input.now) (source.left c.read.new.self) (sink.held c.args.out.now) (sink.held c.pieces.out) (sink.held c.take.new.out)
    (ending_of c.in_err-take-in-Ok.field-0.0) c.requires.begins c.pieces.invariant.fit so_far.2
    (cut_more (source.left c.args.input.now) so_far.0 (source.left c.pieces.input) (source.left c.read.new.self) c.in-Ok.n c.read.new.into so_far.1 c.in-Ok.ensures.taken) c.in_err-take-in-Ok.ensures.takes)

pub returns-in-Err-clause-reads : goal.returns-in-Err-clause-reads
returns-in-Err-clause-reads g c =
    let source = g.S.ByteSource in
    let so_far = c.pieces.invariant.taken in
    reads_failed c.args.self.now c.pieces.self so_far.0 (source.left c.args.input.now) (source.left c.read.new.self) (g.K.ByteSink.held c.args.out.now) (g.K.ByteSink.held c.pieces.out) c.requires.begins
    c.pieces.invariant.fit c.pieces.invariant.idle so_far.2 (rw c.in-Err.ensures.kept so_far.1)
