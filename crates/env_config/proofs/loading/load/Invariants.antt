use Rattle.std.proofs.Common.{◌≡◌, ◌≤◌, map, drop}
use Rattle.std.specs.String.{string_bytes}
use Rattle.env_config.specs.Files.{file_place, file_places}
use Rattle.env_config.specs.Loading.{selected_profile}
use Rattle.env_config.specs.Source.{file_of}
use Rattle.env_config.proofs.LoadLemmas.{ReadSoFar}
use Rattle.env_config.proofs.loading.load.Given as goal

-- the files to come go on where the files that were read end
abbrev pub invariant-loop-file : goal.invariant-loop-file
invariant-loop-file g l = let disk = g.D.Disk in record {
  count : disk.faults l.fn.disk ≤ disk.faults l.disk;
  same : disk.files l.disk ≡ disk.files l.fn.disk;
  read : ReadSoFar disk.answers disk.faults (disk.files l.fn.disk) l.env (file_places l.files) l.fn.disk (map file_place (drop l.file-index l.file-items)) l.disk (map file_of l.texts.items);
  profile : string_bytes l.profile ≡ selected_profile l.env;
}
