use Rattle.std.proofs.Common.{ap, inl, inr, rules, ◌∙◌}
use Rattle.std.proofs.lemmas.Int.{to_z-of_z}
use mir.Syntax.{w64}
use mir.Val.{SFits}
use Rattle.firuvaik_c.specs.Asked.{lent_case, moment_at}
use Rattle.firuvaik_c.proofs.SignLemmas.{case_asked, readable, refuses_moved, signs_moved}
use Rattle.firuvaik_c.proofs.sign.signed.Goals as goal

pub returns-in-Ok : goal.returns-in-Ok
returns-in-Ok c =
    let texts = c.in_ok-texts.ensures in
    let identity = c.in_ok-identity.ensures in
    let fits : SFits w64 c.args.seconds = search rules in
    let when = c.new-at.ensures ∙ ap moment_at (to_z-of_z w64 c.args.seconds fits) in
    let years = rw when at c.in_ok-test_years.ensures in
    let asked = lent_case c.args.signer.now c.args.request.now c.args.settings.now c.args.seconds in
    let cases = case_asked c.args.signer.now c.args.request.now c.args.settings.now c.args.seconds c.in_ok-texts.texts _ _ _ _ _ _ _ _ c.new-params.ensures
    texts.method c.in_ok-headers.ensures.1 c.in_ok-body.ensures.1 c.in_ok-asked.ensures.1 identity.key_id identity.token identity.secret texts.region texts.service
    when in
    let read = readable c.args.signer.now c.args.request.now c.args.settings.now c.args.seconds c.in_ok-test_flags.ensures texts.texts identity.texts
    c.in_ok-headers.ensures.0 c.in_ok-body.ensures.0 c.in_ok-asked.ensures.0 years in
    (read, signs_moved _ c.args.request.now.target.now _ asked c.in-Ok.made texts.target cases c.in-Ok.ensures)

pub returns : goal.returns
returns c =
    let texts = c.in_ok-texts.ensures in
    let identity = c.in_ok-identity.ensures in
    let fits : SFits w64 c.args.seconds = search rules in
    let when = c.new-at.ensures ∙ ap moment_at (to_z-of_z w64 c.args.seconds fits) in
    let years = rw when at c.in_ok-test_years.ensures in
    let asked = lent_case c.args.signer.now c.args.request.now c.args.settings.now c.args.seconds in
    let cases = case_asked c.args.signer.now c.args.request.now c.args.settings.now c.args.seconds c.in_ok-texts.texts _ _ _ _ _ _ _ _ c.new-params.ensures
    texts.method c.in_ok-headers.ensures.1 c.in_ok-body.ensures.1 c.in_ok-asked.ensures.1 identity.key_id identity.token identity.secret texts.region texts.service
    when in
    let read = readable c.args.signer.now c.args.request.now c.args.settings.now c.args.seconds c.in_ok-test_flags.ensures texts.texts identity.texts
    c.in_ok-headers.ensures.0 c.in_ok-body.ensures.0 c.in_ok-asked.ensures.0 years in
    inr (inl (read, (c.in-Err.error, refuses_moved _ c.args.request.now.target.now _ asked _ texts.target cases c.in-Err.ensures, c.from.ensures)))
