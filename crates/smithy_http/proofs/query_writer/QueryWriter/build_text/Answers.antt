use Rattle.std.proofs.Common.{◌∙◌, subst, List, ℕ}
use Rattle.http_uri.specs.Uri.{Spells}
use Rattle.smithy_http.proofs.query_writer.QueryWriter.build_text.Goals as goal

pub returns : goal.returns
returns c =
    let uri = c.in_ok-parse_target.field-0 in
    let spelled = subst (λ (text : List ℕ). Spells text uri) (c.in_ok-clone.ensures.cases ∙ c.in_ok-text.ensures.1) c.in_ok-parse_target.ensures in
    (uri, (c.in_ok-text.ensures.0, spelled), c.in_ok-text.ensures.1)
