use Rattle.std.proofs.Common.{◌++◌, [], ◌∷◌, ap, ◌∙◌}
use Rattle.std.specs.Prelude.{codes, if◌then◌else◌}
use Rattle.hex.specs.Hex.{encode_lower}
use Rattle.mac_core.specs.Mac.{mac}
use Rattle.sigv4.specs.Canonical.{signing_parameters, header_payload, token_pairs, token_parameter}
use Rattle.sigv4.specs.Request.{v4_request_case}
use Rattle.sigv4.specs.Settings.{is_query_form, settings_of}
use Rattle.sigv4.specs.Signature.{signature, string_to_sign, string_to_sign_of}
use Rattle.sigv4.specs.Signed.{authorization, authorization_text, instructions, instructions_for, parameters, signature_of}
use Rattle.sigv4.proofs.CanonicalLemmas.{asked-again}
use Rattle.sigv4.proofs.request_signing.sign_at.Goals as goal

pub returns : goal.returns
unfolding authorization instructions parameters signature signature_of string_to_sign
returns c =
    let signed = v4_request_case c.args.request.now c.args.params.now in
    let texts = c.in_ok-texts.ensures.1 in
    let given = c.settings.ensures in
    let settings = ap settings_of given in
    let token = c.session_token-token.ensures ∙ c.requires.keys.token in
    let key = c.as_slice.ensures ∙ c.requires.key in
    let made = c.in_ok-signature.ensures ∙ (λ i. encode_lower (mac (key i) (string_to_sign_of (texts.stamp i) (texts.scope i) (texts.canonical i)))) in
    let signature_text = c.as_str.ensures.value ∙ made in
    let set = settings_of c.args.params.now.settings in
    rw c.new-2.ensures (
      c.in_ok-texts.ensures.0,
      record {
        headers = c.in_ok-instructions.ensures.headers
            ∙ (λ i. if is_query_form (settings i) then []
            else
            instructions_for (settings i) (texts.stamp i) (authorization_text (texts.credential i) (texts.names i) (signature_text i))
            (header_payload (given i).payload_checksum_kind (texts.payload i)) (token i));
        params = c.in_ok-instructions.ensures.params
            ∙ (λ i. if is_query_form (settings i)
            then texts.parameters i ++ (codes "X-Amz-Signature", signature_text i) ∷ token_pairs (token_parameter (settings i)) (token i) else [])
            ∙ asked-again (is_query_form set) (signing_parameters signed) _;
        signature = made;
      },
    )
