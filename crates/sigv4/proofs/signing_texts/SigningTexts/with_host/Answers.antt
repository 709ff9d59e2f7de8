use Rattle.std.proofs.Common.{◌++◌, [], ap, ◌∙◌}
use Rattle.std.specs.Prelude.{codes, if◌then◌else◌, None}
use Rattle.http_uri.specs.Uri.{uri_path}
use Rattle.smithy_core.specs.Civil.{stamp}
use Rattle.smithy_core.specs.TextPairs.{text_pairs}
use Rattle.smithy_http.specs.Target.{target_of}
use Rattle.eventstream.specs.Key.{scope}
use Rattle.sigv4.specs.Canonical.{canonical, canonical_headers, canonical_lines, credential, given_headers, joined_names, names, parameters_for, signed_token, signing_parameters, header_payload, token_pairs, token_parameter, with_optional, with_signing_headers}
use Rattle.sigv4.specs.CanonicalHeaders.{header_texts, ordered_headers}
use Rattle.sigv4.specs.Path.{canonical_path}
use Rattle.sigv4.specs.Query.{decoded, query}
use Rattle.sigv4.specs.Request.{v4_request_case}
use Rattle.sigv4.specs.Settings.{is_query_form, settings_of}
use Rattle.sigv4.specs.declared.settings.SigningSettings.{SigningSettings}
use Rattle.sigv4.proofs.CanonicalLemmas.{pairs-joined}
use Rattle.sigv4.proofs.HeaderLemmas.{lines-held, names-held}
use Rattle.sigv4.proofs.signing_texts.SigningTexts.with_host.Goals as goal

pub returns : goal.returns
unfolding canonical canonical_headers credential names signing_parameters
returns c =
    let signed = v4_request_case c.args.request.now c.args.params.now in
    let given = c.settings-settings.ensures in
    let settings = ap settings_of given in
    let token = c.session_token-token.ensures ∙ c.requires.keys.token in
    let stamped = c.in_ok-scope.ensures.stamp ∙ ap stamp c.requires.time in
    let scoped = c.in_ok-scope.ensures.scope ∙ (λ i. scope (c.requires.time i) (c.region.ensures i) (c.name.ensures i)) in
    let key_id = c.access_key_id.ensures ∙ c.requires.keys.key_id in
    let key = c.in_ok-credential.ensures ∙ (λ i. key_id i ++ codes "/" ++ scoped i) in
    let payload = c.in_ok-payload.ensures in
    let date = c.as_str.ensures.value ∙ stamped in
    let body = c.as_str-2.ensures.value ∙ payload in
    let held = c.in_ok-headers.ensures
    ∙ (λ i. ordered_headers (settings i) (with_signing_headers (settings i) (date i) (token i) (header_payload (given i).payload_checksum_kind (body i))
    (with_optional (codes "host") (c.requires.host i) (given_headers c.args.request.now.headers.now)))) in
    let set = settings_of c.args.params.now.settings in
    let all = canonical_headers signed in
    let listed = c.in_ok-names.ensures ∙ ap joined_names (names-held set all _ (ap header_texts c.as_slice.ensures.value ∙ held)) in
    let lined = lines-held set all _ (ap header_texts c.as_slice-3.ensures.value ∙ held) in
    let signed_text = c.as_str-signed.ensures.value ∙ listed in
    let stamp_text = c.as_str-stamp.ensures.value ∙ stamped in
    let key_text = c.as_str-3.ensures.value ∙ key in
    let parameters = c.in_ok-parameters.ensures
    ∙ (λ i. if is_query_form (settings i) then parameters_for (key_text i) (stamp_text i) (given i).expires_in (signed_text i) else []) in
    let added = ap text_pairs c.as_slice-2.ensures.value ∙ parameters in
    let name = c.token_parameter-name.ensures ∙ ap token_parameter settings in
    let held_token = c.signed_token-token.ensures
    ∙ (λ i. if is_query_form (settings i) then signed_token (given i).session_token_mode (token i) else None) in
    let asked = c.in_ok-query.ensures
    ∙ (λ i. query (decoded (target_of c.args.request.now.uri) ++ added i ++ token_pairs (name i) (held_token i)))
    ∙ ap query (pairs-joined signed) in
    let path = ap (λ (s : SigningSettings). canonical_path s.uri_path_normalization_mode s.percent_encoding_mode (uri_path c.args.request.now.uri)) given in
    record {
      stamp = stamped;
      scope = scoped;
      credential = key;
      payload = payload;
      names = listed;
      parameters = parameters;
      canonical = c.in_ok-canonical.ensures
          ∙ (λ i. canonical_lines signed.method (path i) ((c.as_str-query.ensures.value ∙ asked) i) (lined i) (signed_text i) ((c.as_str-payload_text.ensures.value ∙ payload) i));
    }
