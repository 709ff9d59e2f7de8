use Rattle.std.proofs.Common.{◌≡◌, map, ap, ◌∙◌}
use Rattle.sigv4.specs.Query.{sorted, string_pair}
use Rattle.sigv4.proofs.canonical_query.EscapedPairs.into_text.Goals as goal

pub returns : goal.returns
returns c =
    let same : map string_pair c.deref.result.now ≡ sorted c.args.self =
    ap (map string_pair) c.deref.ensures.value ∙ c.sort_pairs.ensures ∙ ap sorted c.self.view_is in
    rw (← same) c.join_pairs.ensures
