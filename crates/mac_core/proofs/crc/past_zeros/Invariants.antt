use Rattle.std.proofs.Common.{◌≡◌, ◌*◌, ◌^◌, ◌≤◌}
use Rattle.mac_core.specs.Crc.{after_bits}
use Rattle.mac_core.proofs.crc.past_zeros.Given as goal

-- the zeros to come leave what all of them leave
abbrev pub invariant-powers : goal.invariant-powers
invariant-powers l = (after_bits (8 * (2 ^ l.power * l.rest)) l.left 0 ≡ after_bits (8 * l.count) l.register 0) × (2 ^ l.power * l.rest ≤ l.count)

abbrev pub decreases-powers : goal.decreases-powers
decreases-powers l = l.rest
