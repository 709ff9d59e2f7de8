use Rattle.mac_core.proofs.TableLemmas.{entry_at}
use Rattle.mac_core.proofs.crc.entry.Goals as goal

pub returns : goal.returns
returns c = rw c.from.ensures (entry_at c.args.zeros c.args.byte c.requires c.ranges.byte.fits)
