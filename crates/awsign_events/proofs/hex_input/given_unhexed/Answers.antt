use Rattle.awsign_events.proofs.EncodeLemmas.{unhexed_stops}
use Rattle.awsign_events.proofs.hex_input.given_unhexed.Goals as goal

pub returns-in-Err : goal.returns-in-Err
returns-in-Err c = rw c.from.ensures (unhexed_stops c.args.bytes.now c.in-Err.fault c.in-Err.ensures)
