use Rattle.std.proofs.Common.{◌≡◌, ◌++◌, take}
use Rattle.std.specs.List.{flat_map}
use Rattle.awsign_events.specs.EventText.{json_byte}
use Rattle.awsign_events.proofs.json.push_bytes.Given as goal

-- the bytes so far are written
abbrev pub invariant-loop-byte : goal.invariant-loop-byte
invariant-loop-byte l = l.text.items ≡ l.fn.text.items ++ flat_map json_byte (take l.byte-index l.bytes)
