use Rattle.std.proofs.Common.{◌<◌, ◌≤◌, length, arith}
use Rattle.chunk_watch.proofs.DigitLemmas.{digits_low, next_digit}
use Rattle.chunk_watch.proofs.front.length_of.Goals as goal

pub overflow_mul-number : goal.overflow_mul-number
overflow_mul-number c =
    let few : c.loop-byte.byte-index ≤ 8 = omega arith in
    let low = digits_low c.loop-byte.number c.loop-byte.byte-index few c.loop-byte.invariant.0 in
    omega (arith, low)

pub overflow_add-number : goal.overflow_add-number
overflow_add-number c =
    let few : c.loop-byte.byte-index ≤ 8 = omega arith in
    let low = digits_low c.loop-byte.number c.loop-byte.byte-index few c.loop-byte.invariant.0 in
    let there : c.loop-byte.byte-index < length c.args.digits.now = omega arith in
    let digit = next_digit c.args.digits.now c.loop-byte.byte-index there c.loop-byte.invariant.2 in
    omega (arith, low, digit.0, c.digit_value.ensures)

pub returns-clause-small : goal.returns-clause-small
returns-clause-small c =
    let few : c.loop-byte.byte-index ≤ 8 = omega arith in
    digits_low c.loop-byte.number c.loop-byte.byte-index few c.loop-byte.invariant.0
