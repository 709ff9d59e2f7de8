use Rattle.mac_core.proofs.PowerLemmas.{digits_by_power}
use Rattle.mac_core.proofs.crc.past_power.Goals as goal

pub returns : goal.returns
returns c =
    rw (c.digit_past.ensures, c.digit_past-2.ensures, c.digit_past-3.ensures, c.digit_past-4.ensures, c.digit_past-5.ensures, c.digit_past-6.ensures, c.digit_past-7.ensures, c.digit_past-8.ensures)
    (digits_by_power c.args.power c.args.register c.ranges.register.fits)
