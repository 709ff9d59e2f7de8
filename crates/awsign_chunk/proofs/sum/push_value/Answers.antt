use Rattle.std.proofs.Common.{◌≡◌, ◌∙◌, ◌++◌, ◌∷◌, [], ℕ, List, subst}
use Rattle.std.specs.Prelude.{OnOk}
use Rattle.smithy_core.specs.TextPairs.{lower}
use Rattle.awsign_chunk.proofs.sum.push_value.Goals as goal

pub returns : goal.returns
returns c =
    let Appends : List ℕ → Type 0 = λ value. OnOk c.append.result (c.append.new.self ≡ c.args.trailers.now ++ (lower c.args.name.now, value) ∷ []) in
    subst Appends (c.as_str.ensures.value ∙ c.in_ok-text.ensures.text) c.append.ensures.ok
