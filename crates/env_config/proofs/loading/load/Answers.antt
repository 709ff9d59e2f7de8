use Rattle.std.proofs.Common.{map}
use Rattle.std.proofs.lemmas.List.{at_drop_all}
use Rattle.env_config.specs.Files.{file_place, file_places}
use Rattle.env_config.specs.Source.{file_of}
use Rattle.env_config.proofs.LoadLemmas.{read_all}
use Rattle.env_config.proofs.loading.load.Goals as goal

pub returns-clause-loads : goal.returns-clause-loads
returns-clause-loads g c = (
  read_all g.D.Disk.answers g.D.Disk.faults (g.D.Disk.files c.args.disk.now) c.args.env.now (file_places c.args.files.now) c.args.disk.now _ c.loop-file.disk (map file_of c.loop-file.texts.items)
      c.loop-file.invariant.read (at_drop_all (map file_place) c.as_slice-file-items.result.now c.loop-file.file-index c.loop-file-test.false),
  c.loop-file.invariant.profile,
)
