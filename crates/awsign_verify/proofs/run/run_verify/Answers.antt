use Rattle.smithy_core.specs.Given.{Gives}
use Rattle.env_config.specs.Loading.{Loaded, StopsAtFile}
use Rattle.awsign_run.proofs.CountLemmas.{counts_nothing}
use Rattle.awsign_run.specs.Run.{TakesAskedMoment, asked_moment, asked_places}
use Rattle.awsign_words.specs.Words.{verify_wanted}
use Rattle.awsign_verify.proofs.VerifyRunLemmas.{text_unwritten, text_written, unfailed}
use Rattle.awsign_verify.proofs.run.run_verify.Goals as goal

pub returns-in-Ok-clause-headline : goal.returns-in-Ok-clause-headline
returns-in-Ok-clause-headline g c =
    let options = c.args.asked.now.options in
    text_written (TakesAskedMoment (λ taken. Gives g.C.Clock c.args.clock.now taken c.judge_input.new.clock) (asked_moment options)) c.args.env.now
    (Loaded g.D.Disk.answers g.D.Disk.faults (g.D.Disk.files c.args.disk.now) c.args.env.now (asked_places options) c.args.disk.now c.judge_input.new.disk)
    (StopsAtFile g.D.Disk.answers g.D.Disk.faults (g.D.Disk.files c.args.disk.now) c.args.env.now (asked_places options) c.args.disk.now c.judge_input.new.disk)
    (verify_wanted c.args.asked.now) (g.S.ByteSource.left c.args.input.now) c.in-Ok.text c.write_verified.result (g.K.ByteSink.held c.args.out.now) (g.K.ByteSink.held c.write_verified.new.out)
    c.in-Ok.ensures.judges (rw c.as_slice.ensures.value at c.write_verified.ensures.wrote)

pub returns-in-Err-clause-headline : goal.returns-in-Err-clause-headline
returns-in-Err-clause-headline g c =
    let options = c.args.asked.now.options in
    text_unwritten (TakesAskedMoment (λ taken. Gives g.C.Clock c.args.clock.now taken c.judge_input.new.clock) (asked_moment options)) c.args.env.now
    (Loaded g.D.Disk.answers g.D.Disk.faults (g.D.Disk.files c.args.disk.now) c.args.env.now (asked_places options) c.args.disk.now c.judge_input.new.disk)
    (StopsAtFile g.D.Disk.answers g.D.Disk.faults (g.D.Disk.files c.args.disk.now) c.args.env.now (asked_places options) c.args.disk.now c.judge_input.new.disk)
    (verify_wanted c.args.asked.now) (g.S.ByteSource.left c.args.input.now) c.in-Err.status (g.K.ByteSink.held c.args.out.now) c.in-Err.ensures.judges

pub returns-in-Err-clause-failed : goal.returns-in-Err-clause-failed
returns-in-Err-clause-failed g c =
    let options = c.args.asked.now.options in
    counts_nothing _ _
    (unfailed (TakesAskedMoment (λ taken. Gives g.C.Clock c.args.clock.now taken c.judge_input.new.clock) (asked_moment options)) c.args.env.now
    (Loaded g.D.Disk.answers g.D.Disk.faults (g.D.Disk.files c.args.disk.now) c.args.env.now (asked_places options) c.args.disk.now c.judge_input.new.disk)
    (StopsAtFile g.D.Disk.answers g.D.Disk.faults (g.D.Disk.files c.args.disk.now) c.args.env.now (asked_places options) c.args.disk.now c.judge_input.new.disk)
    (verify_wanted c.args.asked.now) (g.S.ByteSource.left c.args.input.now) c.in-Err.status c.in-Err.ensures.judges)
