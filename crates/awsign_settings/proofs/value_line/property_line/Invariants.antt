use Rattle.std.proofs.Common.{◌≡◌, ◌-◌, length}
use Rattle.env_config.specs.Source.{file_of}
use Rattle.awsign_settings.specs.ValueLine.{first_line, has_value}
use Rattle.awsign_settings.proofs.value_line.property_line.Given as goal

-- the first line that passes is among those to come
abbrev pub invariant-loop-at : goal.invariant-loop-at
invariant-loop-at l =
    first_line (has_value l.profile (file_of l.file) l.part l.value) l.at (length l.lines - l.at) ≡ first_line (has_value l.profile (file_of l.file) l.part l.value) 0 (length l.lines)
