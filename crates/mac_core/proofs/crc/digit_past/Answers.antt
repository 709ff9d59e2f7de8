use Rattle.std.proofs.Common.{◌*◌, ◌/◌, ◌%◌, ◌^◌, arith}
use Rattle.mac_core.proofs.PowerLemmas.{power_at}
use Rattle.mac_core.proofs.crc.digit_past.Goals as goal

pub returns : goal.returns
returns c = power_at c.args.power c.args.place (c.args.register / 2 ^ (4 * c.args.place) % 16) c.requires (omega arith)
