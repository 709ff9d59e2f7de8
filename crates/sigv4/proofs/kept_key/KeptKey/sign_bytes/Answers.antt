use Rattle.std.proofs.Common.{◌∷◌, [], ap, codes, ◌∙◌}
use Rattle.hex.specs.Hex.{encode_lower}
use Rattle.smithy_core.specs.Moment.{floor_secs}
use Rattle.smithy_core.specs.declared.header.HeaderValue.TheVariants.{ByteArray}
use Rattle.eventstream.specs.Link.{date_header, link_code, link_message, link_signature}
use Rattle.sigv4.proofs.kept_key.KeptKey.sign_bytes.Goals as goal

pub returns-clause-message : goal.returns-clause-message
unfolding link_message
returns-clause-message c =
    let code = c.as_slice-2.ensures ∙ c.in_ok-code.ensures.code
    ∙ ap (λ bytes. link_code c.args.self.now.signer c.args.last_signature.now bytes c.args.at) c.as_slice.ensures.value in
    c.summed.ensures.message ∙ c.in_ok-signed.ensures.message
    ∙ (λ i. record {
      headers = record { name = codes ":chunk-signature"; value = ByteArray (code i) } ∷ date_header (floor_secs c.args.at) ∷ [];
      payload = c.args.bytes.items;
    })

pub returns-clause-signature : goal.returns-clause-signature
unfolding link_signature
returns-clause-signature c =
    let code = c.as_slice-2.ensures ∙ c.in_ok-code.ensures.code
    ∙ ap (λ bytes. link_code c.args.self.now.signer c.args.last_signature.now bytes c.args.at) c.as_slice.ensures.value in
    c.summed.ensures.signature ∙ c.in_ok-signed.ensures.signature ∙ ap encode_lower code
