use Rattle.std.proofs.Common.{◌≡◌, ◌++◌, flat_map, map}
use Rattle.sigv4.specs.Instructions.{instruction_pair}
use Rattle.firuvaik_c.specs.Signing.{http_line}
use Rattle.firuvaik_c.proofs.sign.header_lines.Given as goal

-- what was written and the lines of the headers to come are all of them
abbrev pub invariant-loop-name : goal.invariant-loop-name
invariant-loop-name l = l.lines.items ++ flat_map http_line l.name-iterator ≡ flat_map http_line (map instruction_pair l.instructions.headers)
