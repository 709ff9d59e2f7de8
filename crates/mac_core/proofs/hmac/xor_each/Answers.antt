use Rattle.std.proofs.Common.{ℕ, ◌<◌, length, get_or, bit_xor, arith}
use Rattle.std.proofs.lemmas.List.{get_or_default}
use Rattle.std.proofs.lemmas.List.Edits.{map_over_more}
use Rattle.mac_core.specs.Mac.{xored}
use Rattle.mac_core.proofs.hmac.xor_each.Goals as goal

pub loop-byte-preserved : goal.loop-byte-preserved
unfolding xored
loop-byte-preserved c =
    let at = c.loop-byte.byte-index in
    let inside : at < length c.loop-byte.bytes = omega arith in
    let within : at < length c.args.bytes.now = omega arith in
    map_over_more (λ (b : ℕ). bit_xor b c.args.pad) c.args.bytes.now c.loop-byte.bytes at
    (get_or c.loop-byte.bytes at 0) within c.loop-byte.invariant (get_or_default _ _ _ _ inside)
