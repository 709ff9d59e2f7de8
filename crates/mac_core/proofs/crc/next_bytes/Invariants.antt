use Rattle.std.proofs.Common.{◌≡◌, length}
use Rattle.mac_core.specs.Crc.{after_bytes}
use Rattle.mac_core.proofs.crc.next_bytes.Given as goal

-- the bytes to come leave what all of them leave
abbrev pub invariant-sixteens : goal.invariant-sixteens
invariant-sixteens l = after_bytes l.left l.rest ≡ after_bytes l.register l.bytes

abbrev pub decreases-sixteens : goal.decreases-sixteens
decreases-sixteens l = length l.rest
