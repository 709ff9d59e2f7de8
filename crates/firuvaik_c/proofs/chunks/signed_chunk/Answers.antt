use Rattle.std.proofs.Common.{ap, length, ◌∙◌}
use Rattle.firuvaik_c.proofs.LinkLemmas.{length-chunk_signature}
use Rattle.firuvaik_c.proofs.chunks.signed_chunk.Goals as goal

pub code_of-signature-requires : goal.code_of-signature-requires
code_of-signature-requires c = ap (λ text. length text) c.in_ok-signed.ensures.1 ∙ length-chunk_signature _ _ _ _
