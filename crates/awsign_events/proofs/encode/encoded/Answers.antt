use Rattle.awsign_events.specs.Encode.{spelled_messages}
use Rattle.awsign_events.proofs.EncodeLemmas.{unspelled_stops}
use Rattle.awsign_events.proofs.encode.encoded.Goals as goal

pub returns-in-Ok : goal.returns-in-Ok
returns-in-Ok c = rw c.in-Ok.ensures (rw c.as_slice.ensures.value at c.frame_texts.ensures)

pub returns-in-Err : goal.returns-in-Err
returns-in-Err c = rw c.from.ensures (unspelled_stops c.args.is_hex (spelled_messages c.args.bytes.now) c.in-Err.fault c.in-Err.ensures)
