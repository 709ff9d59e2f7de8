use Rattle.std.proofs.Common.{◌≡◌, take}
use Rattle.smithy_core.specs.Disk.{file_pairs}
use Rattle.smithy_core.proofs.outside.disk.copied_files.Given as goal

-- the files that passed are copied
abbrev pub invariant-loop-file : goal.invariant-loop-file
invariant-loop-file l = file_pairs l.copies.items ≡ file_pairs (take l.file-index l.files)
