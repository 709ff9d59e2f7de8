use Rattle.std.proofs.Common.{Err, ap, inl, inr}
use Rattle.awsign_events.proofs.EncodeLemmas.{input_lacks}
use Rattle.awsign_events.proofs.encode.encoded_input.Goals as goal

pub returns-in-Ok-clause-encodes : goal.returns-in-Ok-clause-encodes
returns-in-Ok-clause-encodes g c = inl (c.in-Ok.bytes.items, c.in-Ok.ensures.bytes, rw c.as_slice.ensures.value at c.encoded.ensures)

pub returns-in-Err-clause-encodes : goal.returns-in-Err-clause-encodes
returns-in-Err-clause-encodes g c =
    rw c.from.ensures (inr (input_lacks (g.S.ByteSource.left c.args.input.now) c.in-Err.fault (λ is. c.in-Err.ensures.too_large (ap Err is))))
