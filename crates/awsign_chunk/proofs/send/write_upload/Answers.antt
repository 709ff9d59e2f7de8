use Rattle.sigv4.specs.Signed.{signature_of}
use Rattle.awsign_run.specs.Chosen.{who_signs}
use Rattle.awsign_chunk.specs.Sent.{sent_checksum, length_case}
use Rattle.awsign_chunk.proofs.ChunkRunLemmas.{sends_part, sends_whole, signed_then}
use Rattle.awsign_chunk.proofs.send.write_upload.Goals as goal

pub returns-in-Ok-clause-headline : goal.returns-in-Ok-clause-headline
returns-in-Ok-clause-headline g c = λ wanted n signer at uri is.
    sends_whole wanted n signer at uri c.args.upload is _ _ _ c.write_text.result _ _
    (c.in-Ok.ensures.sends (signature_of (length_case wanted n signer at uri)) (who_signs signer) at (sent_checksum wanted.options) is.over
    (signed_then wanted n signer at uri c.args.upload is) is.sum)
    (rw c.as_slice.ensures.value at c.write_text.ensures.wrote)

pub returns-clause-headline : goal.returns-clause-headline
returns-clause-headline g c = λ wanted n signer at uri is.
    sends_part wanted n signer at uri c.args.upload is _ _ _ c.in-Err.status _
    (c.in-Err.ensures.sends (signature_of (length_case wanted n signer at uri)) (who_signs signer) at (sent_checksum wanted.options) is.over
    (signed_then wanted n signer at uri c.args.upload is) is.sum)
