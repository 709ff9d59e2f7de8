use Rattle.std.proofs.Common.{Err, ap, inl, inr}
use Rattle.awsign_events.proofs.EncodeLemmas.{input_lacks}
use Rattle.awsign_events.proofs.hex_input.read_hex.Goals as goal

pub returns-in-Ok-clause-reads : goal.returns-in-Ok-clause-reads
returns-in-Ok-clause-reads g c = inl (c.in-Ok.text.items, c.in-Ok.ensures.bytes, rw c.as_slice.ensures.value at c.given_unhexed.ensures)

pub returns-in-Err-clause-reads : goal.returns-in-Err-clause-reads
returns-in-Err-clause-reads g c =
    rw c.from.ensures (inr (input_lacks (g.S.ByteSource.left c.args.input.now) c.in-Err.fault (λ is. c.in-Err.ensures.too_large (ap Err is))))
