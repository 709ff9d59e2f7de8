use Rattle.std.proofs.Common.{sym}
use Rattle.mac_core.proofs.LinearLemmas.{byte_by_entry}
use Rattle.mac_core.proofs.crc.next_byte.Goals as goal

pub returns : goal.returns
returns c = rw c.entry.ensures (sym (byte_by_entry c.args.register c.args.byte c.ranges.byte.fits))
