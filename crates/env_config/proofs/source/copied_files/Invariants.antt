use Rattle.std.proofs.Common.{◌≡◌, map, take}
use Rattle.env_config.specs.Source.{file_of}
use Rattle.env_config.proofs.source.copied_files.Given as goal

-- the files that passed are copied
abbrev pub invariant-loop-file : goal.invariant-loop-file
invariant-loop-file l = map file_of l.copies.items ≡ map file_of (take l.file-index l.files)
