use Rattle.std.proofs.Common.{◌≡◌, [], ℕ, Bor, List, Option, ap, ◌∙◌, unwrap_or}
use Rattle.http_uri.specs.Uri.{uri_query}
use Rattle.sigv4.specs.Query.{decoded}
use Rattle.smithy_core.proofs.OptionLemmas.{copied_or}
use Rattle.request_check.proofs.parameters.query_pairs.Goals as goal

pub returns : goal.returns
unfolding decoded
returns c =
    let text : c.unwrap_or.result.now ≡ unwrap_or (uri_query c.args.uri.now) [] =
    ap (λ (t : Bor (List ℕ)). t.now) c.unwrap_or.ensures ∙ copied_or c.query.result _ ∙ ap (λ (t : Option (List ℕ)). unwrap_or t []) c.query.ensures.value in
    rw text at c.decoded_pairs.ensures
