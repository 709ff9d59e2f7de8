use Rattle.std.proofs.Common.{ap, ◌∙◌}
use Rattle.eventstream.specs.Key.{Signer}
use Rattle.sigv4.specs.Chunk.{chunk_signature}
use Rattle.sigv4.specs.KeptKey.{Kept}
use Rattle.sigv4.proofs.KeptKeyLemmas.{kept_signer}
use Rattle.sigv4.proofs.kept_key.KeptKey.chunk_signature.Goals as goal

pub returns-clause-signature : goal.returns-clause-signature
returns-clause-signature c =
    let signer = ap (λ (k : Kept). k.signer) c.keep.ensures.kept ∙ kept_signer c.args.self.now c.args.at in
    c.in_ok-signature.ensures _ c.args.at c.in_ok-second.ensures.hashes c.in_ok-second.ensures.secs
    ∙ ap (λ (s : Signer). chunk_signature c.args.chunk.now s c.args.at c.args.running_signature.now) signer
