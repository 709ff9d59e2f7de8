use Rattle.std.proofs.Common.{ap, ◌∙◌, subst}
use Rattle.std.specs.Prelude.{option_copied, string_bytes}
use Rattle.smithy_http.specs.Target.{Target}
use Rattle.sigv4.specs.Request.{Case}
use Rattle.sigv4.specs.Settings.{settings_of}
use Rattle.aws_auth.specs.Steps.{SignsParts}
use Rattle.aws_signing.specs.SigningBy.{SigningState}
use Rattle.aws_signing.proofs.SigningByLemmas.{case_by}
use Rattle.aws_signing.proofs.signer.Signer.parts_under.Goals as goal

pub returns-clause-parts : goal.returns-clause-parts
returns-clause-parts c =
    let by : SigningState = record { holder = c.self.inside.holder; settings = settings_of c.self.inside.settings } in
    let same =
    case_by by c.args.request.now (option_copied c.args.payload) c.args.seconds c.args.at c.params.result c.params.ensures.key_id c.params.ensures.token
    c.params.ensures.signer c.params.ensures.time (ap settings_of c.params.ensures.settings ∙ c.settings_lent-settings.ensures.lent) in
    let P : (Target → Case) → Type 0 = λ case. SignsParts (string_bytes c.args.request.now.target) case c.signed_parts-parts.result in
    rw (← c.self.view_is) (subst P same c.signed_parts-parts.ensures)
