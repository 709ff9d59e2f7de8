use Rattle.std.proofs.Common.{◌≡◌, ◌++◌}
use Rattle.std.specs.List.{flat_map}
use Rattle.signed_stream.specs.Written.{name_value_line}
use Rattle.signed_stream.proofs.written.push_headers.Given as goal

-- what was written and the lines of the headers to come are all of them
abbrev pub invariant-loop-name : goal.invariant-loop-name
invariant-loop-name l = l.text.items ++ flat_map name_value_line l.name-iterator ≡ l.fn.text.items ++ flat_map name_value_line l.request.headers
