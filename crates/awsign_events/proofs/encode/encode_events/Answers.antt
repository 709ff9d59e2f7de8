use Rattle.awsign_events.proofs.EncodeLemmas.{encoded_written, nothing_written}
use Rattle.awsign_events.proofs.encode.encode_events.Goals as goal

pub returns-in-Ok-clause-headline : goal.returns-in-Ok-clause-headline
returns-in-Ok-clause-headline g c =
    encoded_written c.args.is_hex (g.S.ByteSource.left c.args.input.now) (g.K.ByteSink.held c.args.out.now) (g.K.ByteSink.held c.write_encoded.new.out) c.in-Ok.text c.write_encoded.result
    c.in-Ok.ensures.encodes (rw c.as_slice.ensures.value at c.write_encoded.ensures.wrote)

pub returns-in-Err-clause-headline : goal.returns-in-Err-clause-headline
returns-in-Err-clause-headline g c =
    nothing_written c.args.is_hex (g.S.ByteSource.left c.args.input.now) (g.K.ByteSink.held c.args.out.now) c.in-Err.status c.in-Err.ensures.encodes
