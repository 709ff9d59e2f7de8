use Rattle.std.proofs.Common.{inl, inr, map, refl}
use Rattle.env_config.specs.Loading.{Loaded, StopsAtFile}
use Rattle.env_config.specs.Source.{file_of}
use Rattle.awsign_run.specs.Chosen.{asked_profile}
use Rattle.awsign_run.specs.Run.{asked_places}
use Rattle.awsign_settings.proofs.SettingsRunLemmas.{files_unread}
use Rattle.awsign_settings.proofs.run.run_settings.Goals as goal

pub returns-in-Ok-clause-headline : goal.returns-in-Ok-clause-headline
returns-in-Ok-clause-headline g c = inl (map file_of c.in-Ok.source.files.items, c.in-Ok.ensures.loads.0, c.print_source.ensures.prints)

pub returns-in-Err-clause-headline : goal.returns-in-Err-clause-headline
returns-in-Err-clause-headline g c =
    let options = c.args.options.now in
    rw c.from.ensures
    (inr (
      files_unread (Loaded g.D.Disk.answers g.D.Disk.faults (g.D.Disk.files c.args.disk.now) c.args.env.now (asked_places options) c.args.disk.now c.load_source.new.disk)
          (StopsAtFile g.D.Disk.answers g.D.Disk.faults (g.D.Disk.files c.args.disk.now) c.args.env.now (asked_places options) c.args.disk.now c.load_source.new.disk)
          (asked_profile options c.args.env.now) c.in-Err.fault c.in-Err.ensures.loads,
      refl,
    ))
