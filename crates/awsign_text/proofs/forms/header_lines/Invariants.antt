use Rattle.std.proofs.Common.{◌≡◌, ◌++◌}
use Rattle.std.specs.List.{flat_map}
use Rattle.awsign_text.specs.Forms.{plain_header_line}
use Rattle.awsign_text.proofs.forms.header_lines.Given as goal

-- what was written and the lines of the headers to come are all of them
abbrev pub invariant-loop-name : goal.invariant-loop-name
invariant-loop-name l = l.text.items ++ flat_map plain_header_line l.name-iterator ≡ flat_map plain_header_line l.headers
