use Rattle.std.proofs.Common.{◌≡◌, ◌++◌, take}
use Rattle.std.specs.List.{flat_map}
use Rattle.awsign_events.specs.EventText.{lined_header}
use Rattle.awsign_events.proofs.lines.push_headers.Given as goal

-- the headers so far are written
abbrev pub invariant-loop-header : goal.invariant-loop-header
invariant-loop-header l = l.text.items ≡ l.fn.text.items ++ flat_map lined_header (take l.header-index l.headers)
