use Rattle.std.proofs.Common.{◌≡◌, map, take, true}
use Rattle.std.specs.List.{list_all}
use Rattle.std.specs.Str.{is_utf8}
use Rattle.smithy_core.specs.Disk.{file_pairs}
use Rattle.firuvaik_c.specs.Asked.{lent_pair}
use Rattle.firuvaik_c.proofs.program.files_of.Given as goal

-- the files that passed have texts as paths, and were copied
abbrev pub invariant-loop-file : goal.invariant-loop-file
invariant-loop-file l =
    (list_all (λ file. is_utf8 file.name.now) (take l.file-index l.lent) ≡ true) × (file_pairs l.files.items ≡ map lent_pair (take l.file-index l.lent))
