use Rattle.std.proofs.Common.{◌∙◌}
use Rattle.hex.specs.Hex.{encode_lower}
use Rattle.mac_core.specs.Mac.{mac}
use Rattle.sigv4.specs.Chunk.{chunk_signature, chunk_string_to_sign}
use Rattle.sigv4.specs.Params.{signer_of}
use Rattle.sigv4.proofs.chunk.sign_chunk.Goals as goal

pub returns : goal.returns
unfolding chunk_signature
returns g c =
    let signer = signer_of c.args.params.now in
    let signs = c.in_ok-key.ensures in
    let text = c.as_slice-2.ensures.value ∙ c.in_ok-text.ensures
    ∙ (λ i. chunk_string_to_sign (c.as_slice.ensures i) signer (signs.2 i) c.args.running_signature.now) in
    (signs.0, c.in_ok-sign_text.ensures ∙ (λ i. encode_lower (mac (signs.1 i) (text i))))
