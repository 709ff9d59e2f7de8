use Rattle.std.proofs.Common.{◌≡◌, inl, inr, map}
use Rattle.env_config.specs.Loading.{Loaded, StopsAtFile}
use Rattle.env_config.specs.Source.{file_of}
use Rattle.awsign_run.specs.Chosen.{asked_profile}
use Rattle.awsign_run.specs.Run.{asked_places}
use Rattle.awsign_verify.specs.Message.{message_body}
use Rattle.awsign_verify.proofs.VerifyRunLemmas.{files_lack}
use Rattle.awsign_verify.proofs.run.judge_received.Goals as goal

pub returns-in-Ok-clause-judges : goal.returns-in-Ok-clause-judges
returns-in-Ok-clause-judges g c =
    let body : c.message_body-body.result.now ≡ message_body c.args.received.now.bytes.items = rw c.as_slice.ensures.value at c.message_body-body.ensures.body in
    inl (map file_of c.in-Ok.source.files.items, c.in-Ok.ensures.loads.0, rw body at c.judge.ensures)

pub returns-in-Err-clause-judges : goal.returns-in-Err-clause-judges
returns-in-Err-clause-judges g c =
    let options = c.args.options.now in
    rw c.from.ensures
    (inr (files_lack (Loaded g.D.Disk.answers g.D.Disk.faults (g.D.Disk.files c.args.disk.now) c.args.env.now (asked_places options) c.args.disk.now c.load_source.new.disk)
    (StopsAtFile g.D.Disk.answers g.D.Disk.faults (g.D.Disk.files c.args.disk.now) c.args.env.now (asked_places options) c.args.disk.now c.load_source.new.disk)
    (asked_profile options c.args.env.now) c.in-Err.fault c.in-Err.ensures.loads))
