use Rattle.smithy_core.specs.Given.{Gives}
use Rattle.env_config.specs.Loading.{Loaded, StopsAtFile}
use Rattle.awsign_run.specs.Run.{Digests, TakesAskedMoment, asked_moment, asked_places}
use Rattle.awsign_words.specs.Words.{sign_wanted}
use Rattle.awsign_run.proofs.RunLemmas.{ran_text, ran_without}
use Rattle.awsign_run.proofs.run.run_signing.Goals as goal

pub returns-in-Ok-clause-headline : goal.returns-in-Ok-clause-headline
returns-in-Ok-clause-headline g c =
    let options = c.args.asked.now.options in
    ran_text (Digests options (g.S.ByteSource.left c.args.body.now) (g.S.ByteSource.left c.signed_bytes.new.body))
    (TakesAskedMoment (λ taken. Gives g.C.Clock c.args.clock.now taken c.signed_bytes.new.clock) (asked_moment options)) (sign_wanted c.args.asked.now) c.args.env.now
    (Loaded g.D.Disk.answers g.D.Disk.faults (g.D.Disk.files c.args.disk.now) c.args.env.now (asked_places options) c.args.disk.now c.signed_bytes.new.disk)
    (StopsAtFile g.D.Disk.answers g.D.Disk.faults (g.D.Disk.files c.args.disk.now) c.args.env.now (asked_places options) c.args.disk.now c.signed_bytes.new.disk)
    c.in-Ok.text c.write_text.result (g.K.ByteSink.held c.args.out.now) (g.K.ByteSink.held c.write_text.new.out) c.in-Ok.ensures.gives (rw c.as_slice.ensures.value at c.write_text.ensures.wrote)

pub returns-in-Err-clause-headline : goal.returns-in-Err-clause-headline
returns-in-Err-clause-headline g c =
    let options = c.args.asked.now.options in
    ran_without (Digests options (g.S.ByteSource.left c.args.body.now) (g.S.ByteSource.left c.signed_bytes.new.body))
    (TakesAskedMoment (λ taken. Gives g.C.Clock c.args.clock.now taken c.signed_bytes.new.clock) (asked_moment options)) (sign_wanted c.args.asked.now) c.args.env.now
    (Loaded g.D.Disk.answers g.D.Disk.faults (g.D.Disk.files c.args.disk.now) c.args.env.now (asked_places options) c.args.disk.now c.signed_bytes.new.disk)
    (StopsAtFile g.D.Disk.answers g.D.Disk.faults (g.D.Disk.files c.args.disk.now) c.args.env.now (asked_places options) c.args.disk.now c.signed_bytes.new.disk)
    c.in-Err.status (g.K.ByteSink.held c.args.out.now) c.in-Err.ensures.gives
