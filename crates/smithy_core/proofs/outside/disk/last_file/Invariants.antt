use Rattle.std.proofs.Common.{◌≡◌, drop}
use Rattle.std.specs.Prelude.{option_map, option_copied}
use Rattle.std.specs.Option.{option_or}
use Rattle.smithy_core.specs.Disk.{file_pairs}
use Rattle.smithy_core.specs.TextPairs.{last_value}
use Rattle.smithy_core.proofs.outside.disk.last_file.Given as goal

-- what the files to come have, or else what was found
abbrev pub invariant-loop-file : goal.invariant-loop-file
invariant-loop-file l =
    last_value (file_pairs l.files) l.path ≡ option_or (last_value (file_pairs (drop l.file-index l.files)) l.path) (option_map (λ bytes. bytes.items) (option_copied l.found))
