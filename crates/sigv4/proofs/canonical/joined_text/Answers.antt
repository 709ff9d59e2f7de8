use Rattle.std.proofs.Common.{[], refl}
use Rattle.std.specs.List.{flat_map}
use Rattle.std.specs.String.{string_bytes}
use Rattle.http_uri.specs.Uri.{uri_path}
use Rattle.sigv4.specs.CanonicalHeaders.{header_texts, pair_line}
use Rattle.sigv4.specs.Path.{canonical_path}
use Rattle.sigv4.proofs.LineLemmas.{lines_joined}
use Rattle.sigv4.proofs.canonical.joined_text.Goals as goal

pub returns : goal.returns
returns c =
    let settings = c.args.settings.now in
    let path = canonical_path settings.uri_path_normalization_mode settings.percent_encoding_mode (uri_path c.args.request.now.uri) in
    lines_joined c.args.request.now.method.now path c.args.query.now (flat_map pair_line (header_texts c.args.headers.now)) c.args.names.now c.args.payload.now
    (string_bytes c.push_head.new.sink) (string_bytes c.push_header_lines.new.text) (string_bytes c.push_tail.new.sink)
    (c.in_ok-push_head.ensures [] c.in_ok-text.ensures.bytes) c.in_ok-push_header_lines.ensures
    (c.in_ok-push_tail.ensures (string_bytes c.push_header_lines.new.text) refl)
