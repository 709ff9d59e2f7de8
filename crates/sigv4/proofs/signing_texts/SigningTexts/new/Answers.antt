use Rattle.std.proofs.Common.{ap, inl, ◌∙◌}
use Rattle.std.proofs.lemmas.Result.{err_from_is_err_and}
use Rattle.sigv4.specs.Request.{v4_request_case}
use Rattle.sigv4.specs.Settings.{settings_of}
use Rattle.sigv4.proofs.CanonicalLemmas.{unfit-early, unfit-rest}
use Rattle.sigv4.proofs.signing_texts.SigningTexts.new.Goals as goal

pub returns-in_err-host : goal.returns-in_err-host
returns-in_err-host c =
    let p = err_from_is_err_and c.from_residual.result c.from_residual.ensures.1 in
    let token = c.session_token.ensures ∙ c.requires.keys.token in
    rw (p.1, p.2) (inl (unfit-early (v4_request_case c.args.request.now c.args.params.now) _ (ap settings_of c.settings-settings.ensures) token c.in_err-host.ensures))

pub returns-in_err-test_texts : goal.returns-in_err-test_texts
returns-in_err-test_texts c =
    let p = err_from_is_err_and c.from_residual-in_err-test_texts.result c.from_residual-in_err-test_texts.ensures.1 in
    let token = c.session_token.ensures ∙ c.requires.keys.token in
    let texts = c.in_ok-texts.ensures in
    rw (p.1, p.2)
    (inl
    (unfit-rest (v4_request_case c.args.request.now c.args.params.now) _ (ap settings_of c.settings-settings.ensures) token (c.as_str.ensures.value ∙ texts.payload)
    (c.as_str-2.ensures.value ∙ texts.credential) c.in_ok-host.ensures.0 c.in_err-test_texts.ensures))

pub returns : goal.returns
returns c =
    let token = c.session_token.ensures ∙ c.requires.keys.token in
    let texts = c.in_ok-texts.ensures in (
      unfit-rest (v4_request_case c.args.request.now c.args.params.now) _ (ap settings_of c.settings-settings.ensures) token (c.as_str.ensures.value ∙ texts.payload)
          (c.as_str-2.ensures.value ∙ texts.credential) c.in_ok-host.ensures.0 c.in_ok-test_texts.ensures,
      texts,
    )
