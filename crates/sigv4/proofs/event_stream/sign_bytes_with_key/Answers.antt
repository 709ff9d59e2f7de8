use Rattle.std.proofs.Common.{◌∷◌, [], ap, codes, ◌∙◌}
use Rattle.hex.specs.Hex.{encode_lower}
use Rattle.smithy_core.specs.Moment.{floor_secs}
use Rattle.smithy_core.specs.declared.header.HeaderValue.TheVariants.{ByteArray}
use Rattle.eventstream.specs.Link.{date_header, link_code, link_message, link_signature}
use Rattle.sigv4.specs.Params.{signer_of, v4_time}
use Rattle.sigv4.proofs.event_stream.sign_bytes_with_key.Goals as goal

pub returns : goal.returns
unfolding link_message link_signature
returns c =
    let params = c.args.params.now in
    let code = c.as_slice-2.ensures ∙ c.in_ok-code.ensures.1
    ∙ ap (λ bytes. link_code (signer_of params) c.args.last_signature.now bytes (v4_time params)) c.as_slice.ensures.value in (
      c.in_ok-code.ensures.0,
      c.in_ok-link.ensures.message
          ∙ (λ i. record {
            headers = record { name = codes ":chunk-signature"; value = ByteArray (code i) } ∷ date_header (floor_secs (c.time.ensures i)) ∷ [];
            payload = c.args.bytes.items;
          }),
      c.in_ok-link.ensures.signature ∙ ap encode_lower code,
    )
