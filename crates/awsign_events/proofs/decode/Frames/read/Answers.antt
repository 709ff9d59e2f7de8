use Rattle.std.proofs.Common.{[], ◌++◌, take, Ok, Err, refl, ap, ◌∙◌, arith}
use Rattle.awsign_events.proofs.FailedLemmas.{counts_none, counts_on_behind, steady_ok}
use Rattle.std.proofs.lemmas.Result.{err_from_is_err_and}
use Rattle.smithy_core.proofs.CutLemmas.{cut_at_start, cut_more}
use Rattle.awsign_events.proofs.ShowLemmas.{no_more, start_few, start_shown, start_unfinished, stops_ends}
use Rattle.awsign_events.proofs.decode.Frames.read.Goals as goal

pub pieces-init : goal.pieces-init
pieces-init g c = record {
  room = omega arith;
  short = omega arith;
  taken = ([], cut_at_start (g.S.ByteSource.left c.args.input.now), start_shown c.args.form (g.K.ByteSink.held c.args.out.now) c.args.self.now c.requires.none c.requires.first);
  unfinished = start_unfinished c.args.self.now c.requires.none;
  few = start_few c.args.self.now c.requires.none;
  reads = omega arith;
  steady = refl;
}

pub returns-in-Ok-eq0-clause-reads : goal.returns-in-Ok-eq0-clause-reads
returns-in-Ok-eq0-clause-reads g c =
    let source = g.S.ByteSource in
    let so_far = c.pieces.invariant.taken in
    let cut = cut_more (source.left c.args.input.now) so_far.0 (source.left c.pieces.input) (source.left c.read.new.self) c.in-Ok-eq0.field-0 c.read.new.into so_far.1 c.in-Ok-eq0.ensures.taken in (
      so_far.0,
      no_more (source.left c.args.input.now) so_far.0 c.in-Ok-eq0.field-0 c.read.new.into (source.left c.read.new.self) c.in-Ok-eq0.field-0-test cut,
      c.end.ensures.ends c.args.form so_far.0 (source.left c.read.new.self) (g.K.ByteSink.held c.args.out.now) (g.K.ByteSink.held c.pieces.out)
          (c.in-Ok-eq0.ensures.at_end (ap Ok c.in-Ok-eq0.field-0-test) c.pieces.invariant.room) so_far.2 c.pieces.invariant.unfinished,
    )

pub pieces-preserved : goal.pieces-preserved
pieces-preserved g c =
    let source = g.S.ByteSource in
    let sink = g.K.ByteSink in
    let so_far = c.pieces.invariant.taken in
    let piece = take c.in-Ok.n c.read.new.into in
    let shown = c.in_ok-show-in-Ok.ensures.shows so_far.0 (sink.held c.args.out.now) so_far.2 in
    record {
      room = rw c.read.auto.into c.pieces.invariant.room;
      short = rw c.read.auto.into c.pieces.invariant.short;
      taken = (
        so_far.0 ++ piece,
        cut_more (source.left c.args.input.now) so_far.0 (source.left c.pieces.input) (source.left c.read.new.self) c.in-Ok.n c.read.new.into so_far.1 c.in-Ok.ensures.taken,
        shown.0,
      );
      unfinished = shown.1;
      few = c.in_ok-show-in-Ok.ensures.few;
      reads = omega (arith, c.pieces.invariant.reads, c.read.ensures.count);
      steady = steady_ok _ _ _ _ _ c.in_ok-show-in-Ok.was c.show.ensures.failed ∙ c.pieces.invariant.steady;
    }

pub returns-in_err-show-in-Ok-clause-reads : goal.returns-in_err-show-in-Ok-clause-reads
returns-in_err-show-in-Ok-clause-reads g c =
    let source = g.S.ByteSource in
    let sink = g.K.ByteSink in
    let so_far = c.pieces.invariant.taken in
    let piece = take c.in-Ok.n c.read.new.into in
    let exit = err_from_is_err_and c.from_residual.result c.from_residual.ensures.1 in
    rw (exit.1, exit.2) (
      so_far.0 ++ piece,
      cut_more (source.left c.args.input.now) so_far.0 (source.left c.pieces.input) (source.left c.read.new.self) c.in-Ok.n c.read.new.into so_far.1 c.in-Ok.ensures.taken,
      stops_ends c.args.form (so_far.0 ++ piece) (source.left c.read.new.self) c.in_err-show-in-Ok.field-0.0 (sink.held c.args.out.now) (sink.held c.show.new.out)
          (c.in_err-show-in-Ok.ensures.shows so_far.0 (sink.held c.args.out.now) so_far.2),
    )

pub returns-in-Err-clause-reads : goal.returns-in-Err-clause-reads
returns-in-Err-clause-reads g c =
    let so_far = c.pieces.invariant.taken in (so_far.0, rw c.in-Err.ensures.kept so_far.1, (c.pieces.self.waiting.bytes, c.pieces.self.place, so_far.2, c.pieces.invariant.unfinished))

pub returns-in-Ok-eq0-clause-failed : goal.returns-in-Ok-eq0-clause-failed
returns-in-Ok-eq0-clause-failed g c = counts_none _ _ _ c.pieces.invariant.steady c.end.ensures.sound

pub returns-in_err-show-in-Ok-clause-failed : goal.returns-in_err-show-in-Ok-clause-failed
returns-in_err-show-in-Ok-clause-failed g c =
    let exit = err_from_is_err_and c.from_residual.result c.from_residual.ensures.1 in
    rw (exit.1, exit.2) (counts_on_behind c.show.result (Err c.in_err-show-in-Ok.field-0.0) _ _ _ _ _ c.pieces.invariant.steady c.in_err-show-in-Ok.was refl c.show.ensures.failed)

pub returns-in-Err-clause-failed : goal.returns-in-Err-clause-failed
returns-in-Err-clause-failed g c = counts_none _ _ _ c.pieces.invariant.steady (λ is. cc)

pub returns-clause-failed : goal.returns-clause-failed
returns-clause-failed g c = counts_none _ _ _ c.pieces.invariant.steady (λ is. cc)
