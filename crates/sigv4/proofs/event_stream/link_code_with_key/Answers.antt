use Rattle.std.proofs.Common.{◌≡◌, [], None, subst, sym, ◌∙◌}
use Rattle.mac_core.specs.Mac.{HoldsMac, key_block}
use Rattle.smithy_core.specs.Identity.{secret_of}
use Rattle.eventstream.specs.Key.{Signer, signing_key}
use Rattle.eventstream.specs.Link.{link_code}
use Rattle.sigv4.specs.EventStream.{unsignable}
use Rattle.sigv4.specs.Params.{signer_of, v4_identity, v4_time}
use Rattle.sigv4.proofs.event_stream.link_code_with_key.Goals as goal

pub returns : goal.returns
returns c =
    let params = c.args.params.now in
    let at = c.time-at.result in
    let moment = c.time-at.ensures in
    let signs : unsignable (v4_identity params) (v4_time params) ≡ None =
    sym (λ i. unsignable (c.identity.ensures i) (moment i)) ∙ c.in_ok-test_signing.ensures.0 in
    let secret = secret_of (v4_identity params) in
    let who : Signer = record { secret = secret; region = c.region.result.now; name = c.name.result.now } in
    let same : who ≡ signer_of params = λ i. record { secret = secret; region = c.region.ensures i; name = c.name.ensures i } in
    let key : c.as_slice.result.now ≡ signing_key who at =
    c.as_slice.ensures ∙ c.requires signs ∙ sym (λ i. signing_key (same i) (moment i)) in
    let held = subst (λ key. HoldsMac c.new-keyed.result (key_block key) []) key c.new-keyed.ensures in (
      signs,
      c.in_ok-link_code.ensures who at (c.in_ok-hasher.ensures.hashes secret held) c.in_ok-hasher.ensures.secs
          ∙ (λ i. link_code (same i) c.args.last_signature.now c.args.bytes.now (moment i)),
    )
