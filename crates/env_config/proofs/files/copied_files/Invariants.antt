use Rattle.std.proofs.Common.{◌≡◌, map, take}
use Rattle.env_config.specs.Files.{file_place}
use Rattle.env_config.proofs.files.copied_files.Given as goal

-- the files that passed are copied
abbrev pub invariant-loop-file : goal.invariant-loop-file
invariant-loop-file l = map file_place l.copies.items ≡ map file_place (take l.file-index l.files)
