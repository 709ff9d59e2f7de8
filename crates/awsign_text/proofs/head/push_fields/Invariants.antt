use Rattle.std.proofs.Common.{◌≡◌, ◌++◌}
use Rattle.std.specs.List.{flat_map}
use Rattle.awsign_text.specs.Head.{field_line}
use Rattle.awsign_text.proofs.head.push_fields.Given as goal

-- what was written and the headers to come are all of them
abbrev pub invariant-loop-name : goal.invariant-loop-name
invariant-loop-name l = l.text.items ++ flat_map field_line l.name-iterator ≡ l.fn.text.items ++ flat_map field_line l.headers
