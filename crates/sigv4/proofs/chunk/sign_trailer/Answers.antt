use Rattle.std.proofs.Common.{◌∙◌}
use Rattle.hex.specs.Hex.{encode_lower}
use Rattle.mac_core.specs.Mac.{mac}
use Rattle.smithy_core.specs.Identity.{secret_of}
use Rattle.sigv4.specs.Chunk.{trailer_signature, trailer_text}
use Rattle.sigv4.specs.Params.{v4_identity}
use Rattle.sigv4.proofs.chunk.sign_trailer.Goals as goal

pub returns : goal.returns
unfolding trailer_signature
returns g c =
    let secret = secret_of (v4_identity c.args.params.now) in
    let signs = c.in_ok-key.ensures in
    let text = c.as_slice.ensures.value ∙ c.in_ok-text.ensures secret
    ∙ (λ i. trailer_text c.args.headers.now (record { secret = secret; region = c.region-region.ensures i; name = c.name-name.ensures i }) (signs.2 i) c.args.running_signature.now) in
    (signs.0, c.in_ok-sign_text.ensures ∙ (λ i. encode_lower (mac (signs.1 i) (text i))))
