use Rattle.std.proofs.Common.{ap, ◌∙◌}
use Rattle.hex.specs.Hex.{encode_lower}
use Rattle.sigv4.proofs.SecondHasherLemmas.{hashed_chunk}
use Rattle.sigv4.proofs.second_hasher.SecondHasher.chunk_signature.Goals as goal

pub returns : goal.returns
returns c signer t hashes same =
    c.in_ok-encode.ensures ∙ ap encode_lower c.as_slice.ensures
    ∙ hashed_chunk signer c.args.self.now.secs c.sha256_digits.result c.args.running_signature.now c.args.chunk.now c.in_ok-code.code t same
    c.sha256_digits.ensures (c.in_ok-code.ensures _ _ hashes.begun)
