use Rattle.std.proofs.Common.{ℕ, ◌+◌, ◌*◌, ◌/◌, ◌^◌, ap, sym, ◌∙◌, arith}
use Rattle.mac_core.specs.Crc.{after_bits}
use Rattle.mac_core.proofs.PowerLemmas.{less_left, next_powers, no_powers, power_fits}
use Rattle.mac_core.proofs.crc.past_zeros.Goals as goal

pub powers-init : goal.powers-init
powers-init c = (ap (λ (n : ℕ). after_bits (8 * n) c.args.register 0) (omega arith), omega arith)

pub overflow_add-power : goal.overflow_add-power
overflow_add-power c = omega (arith, power_fits c.powers.power c.powers.rest c.args.count c.powers.invariant.1 (omega arith) c.ranges.count.fits)

pub powers-preserved : goal.powers-preserved
powers-preserved c =
    let power = c.powers.power in
    let rest = c.powers.rest in (
      ap (λ (r : ℕ). after_bits (8 * (2 ^ (power + 1) * (rest / 2))) r 0) c.past_lowest-left.ensures ∙ next_powers power rest c.powers.left ∙ c.powers.invariant.0,
      less_left power rest c.args.count c.powers.invariant.1,
    )

pub returns : goal.returns
returns c = sym (no_powers c.powers.power c.powers.rest c.powers.left c.powers-test.false) ∙ c.powers.invariant.0
