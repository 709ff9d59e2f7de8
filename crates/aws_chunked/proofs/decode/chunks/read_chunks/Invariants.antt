use Rattle.std.proofs.Common.{length}
use Rattle.aws_chunked.specs.Rests.{signature_texts}
use Rattle.aws_chunked.proofs.StepLemmas.{Reached}
use Rattle.aws_chunked.proofs.decode.chunks.read_chunks.Given as goal

abbrev pub invariant-loop-length : goal.invariant-loop-length
invariant-loop-length l = Reached l.bytes l.size l.length l.chunks.is_signed l.chunks.body.items (signature_texts l.chunks.signatures.items) l.rest

abbrev pub decreases-loop-length : goal.decreases-loop-length
decreases-loop-length l = length l.rest
