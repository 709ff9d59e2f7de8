use Rattle.std.proofs.Common.{map}
use Rattle.smithy_core.specs.Given.{Gives}
use Rattle.env_config.specs.Source.{file_of}
use Rattle.env_config.specs.Loading.{Loaded, StopsAtFile}
use Rattle.awsign_run.specs.Chosen.{asked_profile}
use Rattle.awsign_run.specs.Run.{Digests, TakesAskedMoment, asked_moment, asked_places}
use Rattle.awsign_words.specs.Words.{sign_wanted}
use Rattle.awsign_run.proofs.RunLemmas.{files_given, files_unread}
use Rattle.awsign_run.proofs.run.signed_bytes.Goals as goal

pub returns-in-Ok-clause-gives : goal.returns-in-Ok-clause-gives
returns-in-Ok-clause-gives g c =
    let options = c.args.asked.now.options in
    files_given (Digests options (g.S.ByteSource.left c.args.body.now) (g.S.ByteSource.left c.sign_source.new.body))
    (TakesAskedMoment (λ taken. Gives g.C.Clock c.args.clock.now taken c.sign_source.new.clock) (asked_moment options)) (sign_wanted c.args.asked.now) c.args.env.now
    (Loaded g.D.Disk.answers g.D.Disk.faults (g.D.Disk.files c.args.disk.now) c.args.env.now (asked_places options) c.args.disk.now c.load_source.new.disk)
    (StopsAtFile g.D.Disk.answers g.D.Disk.faults (g.D.Disk.files c.args.disk.now) c.args.env.now (asked_places options) c.args.disk.now c.load_source.new.disk)
    (map file_of c.in-Ok.source.files.items) c.sign_source.result c.in-Ok.ensures.loads.0 c.sign_source.ensures.gives

pub returns-in-Err-clause-gives : goal.returns-in-Err-clause-gives
returns-in-Err-clause-gives g c =
    let options = c.args.asked.now.options in
    rw c.from.ensures
    (files_unread (Digests options (g.S.ByteSource.left c.args.body.now) (g.S.ByteSource.left c.args.body.now))
    (TakesAskedMoment (λ taken. Gives g.C.Clock c.args.clock.now taken c.args.clock.now) (asked_moment options)) (sign_wanted c.args.asked.now) c.args.env.now
    (Loaded g.D.Disk.answers g.D.Disk.faults (g.D.Disk.files c.args.disk.now) c.args.env.now (asked_places options) c.args.disk.now c.load_source.new.disk)
    (StopsAtFile g.D.Disk.answers g.D.Disk.faults (g.D.Disk.files c.args.disk.now) c.args.env.now (asked_places options) c.args.disk.now c.load_source.new.disk)
    (asked_profile options c.args.env.now) c.in-Err.fault c.in-Err.ensures.loads)
