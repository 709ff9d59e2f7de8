use Rattle.std.proofs.Common.{◌≡◌, true, false}
use Rattle.std.specs.Prelude.{string_bytes}
use Rattle.awsign_text.specs.Curl.{is_uploaded}
use Rattle.awsign_text.proofs.CurlLemmas.{body_sent, body_uploaded}
use Rattle.awsign_text.proofs.curl.push_body.Goals as goal

pub returns-then-is_uploaded : goal.returns-then-is_uploaded
returns-then-is_uploaded c =
    let request = c.args.request.now in
    let is : is_uploaded (string_bytes request.method) (string_bytes request.target) ≡ true =
    rw (← c.as_str.ensures.value, ← c.as_str-2.ensures.value, ← c.is_uploaded.ensures) c.if-is_uploaded.true in
    rw (body_uploaded (string_bytes request.method) (string_bytes request.target) request.headers c.args.path.now is) c.push_setting.ensures

pub returns-else-is_uploaded : goal.returns-else-is_uploaded
returns-else-is_uploaded c =
    let request = c.args.request.now in
    let is : is_uploaded (string_bytes request.method) (string_bytes request.target) ≡ false =
    rw (← c.as_str.ensures.value, ← c.as_str-2.ensures.value, ← c.is_uploaded.ensures) c.if-is_uploaded.false in
    rw (body_sent (string_bytes request.method) (string_bytes request.target) request.headers c.args.path.now is) c.push_sent.ensures
