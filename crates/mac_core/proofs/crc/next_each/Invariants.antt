use Rattle.std.proofs.Common.{◌≡◌, drop}
use Rattle.mac_core.specs.Crc.{after_bytes}
use Rattle.mac_core.proofs.crc.next_each.Given as goal

-- the bytes to come leave what all of them leave
abbrev pub invariant-loop-byte : goal.invariant-loop-byte
invariant-loop-byte l = after_bytes l.left (drop l.byte-index l.bytes) ≡ after_bytes l.register l.bytes
