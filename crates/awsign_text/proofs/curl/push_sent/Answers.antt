use Rattle.std.proofs.Common.{◌++◌, append_assoc, codes}
use Rattle.awsign_text.specs.Curl.{curl_config_text, no_content_type, setting_line, valued}
use Rattle.awsign_text.proofs.CurlLemmas.{sent_line}
use Rattle.awsign_text.proofs.curl.push_sent.Goals as goal

pub returns : goal.returns
returns c =
    let headers = c.args.headers.now in
    let path = c.args.path.now in
    rw (
      sent_line headers path,
      ← append_assoc c.args.text.now.items (curl_config_text (no_content_type headers)) (setting_line (valued (codes "data-binary") (codes "@" ++ path))),
      ← c.in_ok-push_no_content_type.ensures,
    ) c.push_setting.ensures
