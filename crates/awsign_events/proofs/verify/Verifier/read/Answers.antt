use Rattle.std.proofs.Common.{[], ◌++◌, take, Ok, ap, refl, ◌∙◌, arith}
use Rattle.std.proofs.lemmas.Result.{err_from_is_err_and}
use Rattle.smithy_core.proofs.CutLemmas.{cut_at_start, cut_more}
use Rattle.chain_watch.specs.Walk.{seed_point, walk}
use Rattle.awsign_events.proofs.ShowLemmas.{no_more}
use Rattle.awsign_events.proofs.VerifyLemmas.{ends_unread, stops_run, verified_none}
use Rattle.awsign_events.proofs.verify.Verifier.read.Goals as goal

pub pieces-init : goal.pieces-init
pieces-init g c = record {
  room = omega arith;
  short = omega arith;
  taken = λ signer seed new. ([], cut_at_start (g.S.ByteSource.left c.args.input.now), verified_none c.args.form signer seed c.args.self.now (g.K.ByteSink.held c.args.out.now) new);
  reads = omega arith;
  writes = refl;
}

pub returns-in-Ok-eq0-clause-reads : goal.returns-in-Ok-eq0-clause-reads
returns-in-Ok-eq0-clause-reads g c =
    let source = g.S.ByteSource in
    λ signer seed new.
    let so_far = c.pieces.invariant.taken signer seed new in
    let cut = cut_more (source.left c.args.input.now) so_far.0 (source.left c.pieces.input) (source.left c.read.new.self) c.in-Ok-eq0.field-0 c.read.new.into so_far.1 c.in-Ok-eq0.ensures.taken in (
      so_far.0,
      no_more (source.left c.args.input.now) so_far.0 c.in-Ok-eq0.field-0 c.read.new.into (source.left c.read.new.self) c.in-Ok-eq0.field-0-test cut,
      c.in-Ok-eq0.ensures.at_end (ap Ok c.in-Ok-eq0.field-0-test) c.pieces.invariant.room,
      so_far.2,
    )

pub pieces-preserved : goal.pieces-preserved
pieces-preserved g c =
    let source = g.S.ByteSource in
    let sink = g.K.ByteSink in
    let piece = take c.in-Ok.n c.read.new.into in
    record {
      room = rw c.read.auto.into c.pieces.invariant.room;
      short = rw c.read.auto.into c.pieces.invariant.short;
      taken =
          λ signer seed new.
          let so_far = c.pieces.invariant.taken signer seed new in (
            so_far.0 ++ piece,
            cut_more (source.left c.args.input.now) so_far.0 (source.left c.pieces.input) (source.left c.read.new.self) c.in-Ok.n c.read.new.into so_far.1 c.in-Ok.ensures.taken,
            c.in_ok-take-in-Ok.ensures.takes signer seed so_far.0 (sink.held c.args.out.now) so_far.2,
          );
      reads = omega (arith, c.pieces.invariant.reads, c.read.ensures.count);
      writes = c.in_ok-take-in-Ok.ensures.failed.stayed (λ is. let wrong = is in cc) ∙ c.pieces.invariant.writes;
    }

pub returns-in_err-take-in-Ok-clause-reads : goal.returns-in_err-take-in-Ok-clause-reads
returns-in_err-take-in-Ok-clause-reads g c =
    let source = g.S.ByteSource in
    let sink = g.K.ByteSink in
    let piece = take c.in-Ok.n c.read.new.into in
    let exit = err_from_is_err_and c.from_residual.result c.from_residual.ensures.1 in
    λ signer seed new.
    let so_far = c.pieces.invariant.taken signer seed new in
    rw (exit.1, exit.2) (
      so_far.0 ++ piece,
      cut_more (source.left c.args.input.now) so_far.0 (source.left c.pieces.input) (source.left c.read.new.self) c.in-Ok.n c.read.new.into so_far.1 c.in-Ok.ensures.taken,
      stops_run c.args.form (walk signer (seed_point seed) (so_far.0 ++ piece)) (source.left c.read.new.self) c.in_err-take-in-Ok.field-0.0 (sink.held c.args.out.now) (sink.held c.take.new.out)
          (c.in_err-take-in-Ok.ensures.takes signer seed so_far.0 (sink.held c.args.out.now) so_far.2),
    )

pub returns-in-Err-clause-reads : goal.returns-in-Err-clause-reads
returns-in-Err-clause-reads g c =
    let source = g.S.ByteSource in
    let sink = g.K.ByteSink in
    λ signer seed new.
    let so_far = c.pieces.invariant.taken signer seed new in (
      so_far.0,
      rw c.in-Err.ensures.kept so_far.1,
      ends_unread c.args.form signer seed so_far.0 c.pieces.self (sink.held c.args.out.now) (sink.held c.pieces.out) so_far.2 (source.left c.read.new.self),
    )

pub returns-clause-reads : goal.returns-clause-reads
returns-clause-reads g c =
    let source = g.S.ByteSource in
    let sink = g.K.ByteSink in
    λ signer seed new.
    let so_far = c.pieces.invariant.taken signer seed new in (
      so_far.0,
      so_far.1,
      ends_unread c.args.form signer seed so_far.0 c.pieces.self (sink.held c.args.out.now) (sink.held c.pieces.out) so_far.2 (source.left c.pieces.input),
    )
