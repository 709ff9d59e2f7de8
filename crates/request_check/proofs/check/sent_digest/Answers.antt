use Rattle.std.proofs.Common.{ℕ, List, [], ◌++◌, refl, subst}
use Rattle.std.specs.Prelude.{codes, option_copied}
use Rattle.std.specs.List.{flat_map}
use Rattle.http_uri.specs.Uri.{uri_path}
use Rattle.smithy_core.specs.Text.{line}
use Rattle.sigv4.specs.Canonical.{given_headers, header_line, with_optional}
use Rattle.sigv4.specs.Digest.{HoldsText}
use Rattle.sigv4.specs.Path.{canonical_path}
use Rattle.sigv4.proofs.LineLemmas.{lines_joined}
use Rattle.request_check.specs.Recomputed.{carried_names, sent_text}
use Rattle.request_check.proofs.check.sent_digest.Goals as goal

pub returns : goal.returns
unfolding sent_text
returns c =
    let settings = c.args.settings.now in
    let method = c.as_str-method.result.now in
    let path = canonical_path settings.uri_path_normalization_mode settings.percent_encoding_mode (uri_path c.args.uri.now) in
    let query = c.as_str-query.result.now in
    let headers = with_optional (codes "host") (option_copied c.added_host-host.result) (given_headers c.args.sent.now.headers) in
    let lines = flat_map (header_line headers) (carried_names c.names.result.now) in
    let names = c.names-2.result.now in
    let head = line method ++ line path ++ line query in
    let begun = c.in_ok-push_head.ensures [] c.new-text.ensures in
    let more = c.in_ok-push_header_lines.ensures head begun in
    let ended = c.in_ok-push_tail.ensures (head ++ lines) more in
    let joined = lines_joined method path query lines names c.args.payload.now head (head ++ lines) _ refl refl refl in
    let whole = subst (λ (text : List ℕ). HoldsText c.push_tail.new.sink text) joined ended in
    rw (
      c.as_str-method.ensures.value,
      c.as_str-query.ensures.value,
      c.in_ok-query.ensures,
      c.place.ensures,
      c.names.ensures,
      c.names-2.ensures,
      c.added_host-host.ensures.host,
    ) at whole
