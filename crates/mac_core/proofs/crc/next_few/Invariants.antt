use Rattle.std.proofs.Common.{◌≡◌, length}
use Rattle.mac_core.specs.Crc.{after_bytes}
use Rattle.mac_core.proofs.crc.next_few.Given as goal

-- the bytes to come leave what all of them leave
abbrev pub invariant-fours : goal.invariant-fours
invariant-fours l = after_bytes l.left l.rest ≡ after_bytes l.register l.bytes

abbrev pub decreases-fours : goal.decreases-fours
decreases-fours l = length l.rest
