use Rattle.std.proofs.Common.{◌≡◌, map, take}
use Rattle.env_config.specs.Source.{file_of}
use Rattle.awsign_run.specs.Chosen.{file_path}
use Rattle.awsign_run.proofs.fault.file_paths.Given as goal

-- the paths of the files so far
abbrev pub invariant-loop-file : goal.invariant-loop-file
invariant-loop-file l = map (λ path. path.now) l.paths.items ≡ map file_path (map file_of (take l.file-index l.files))
