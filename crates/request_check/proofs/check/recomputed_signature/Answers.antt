use Rattle.std.proofs.Common.{ℕ, List, ap, ◌∙◌}
use Rattle.std.specs.Prelude.{string_bytes}
use Rattle.eventstream.specs.Key.{Signer}
use Rattle.smithy_http.specs.Target.{target_of}
use Rattle.sigv4.specs.Settings.{settings_of}
use Rattle.sigv4.specs.Signature.{signature}
use Rattle.request_check.specs.Recomputed.{recomputed, sent_text}
use Rattle.request_check.proofs.SealLemmas.{if_ok}
use Rattle.request_check.proofs.check.recomputed_signature.Goals as goal

pub returns : goal.returns
unfolding recomputed
returns c =
    let sent = c.args.sent.now in
    let seal = c.args.seal.now in
    let signer : Signer = record { secret = c.args.secret.now; region = c.args.region.now; name = c.args.name.now } in
    let text_of = λ (text : List ℕ). sent_text (string_bytes sent.method) (target_of c.args.uri.now) sent.headers (settings_of c.args.settings.now) text seal in
    let text = ap text_of (c.as_str.ensures.value ∙ c.in_ok-payload.ensures) in
    if_ok c.digest_signature.result (λ made is. rw c.at.ensures at is ∙ ap (signature signer seal.at) text)
    (c.digest_signature.ensures (text_of c.as_str.result.now) c.in_ok-text.ensures)
