use Rattle.std.proofs.Common.{◌≡◌, ◌++◌, take, drop}
use Rattle.mac_core.specs.Mac.{xored}
use Rattle.mac_core.proofs.hmac.xor_each.Given as goal

-- the front is xored, and the rest is as it was
abbrev pub invariant-loop-byte : goal.invariant-loop-byte
invariant-loop-byte l = l.bytes ≡ xored l.pad (take l.byte-index l.initial.bytes) ++ drop l.byte-index l.initial.bytes
