use Rattle.std.proofs.Common.{◌∙◌, ◌++◌, ap, sym, List, ℕ, String, Global, string_bytes}
use Rattle.env_config.specs.Latest.{without_places}
use Rattle.env_config.specs.LatestView.{placed_of}
use Rattle.env_config.proofs.FewLemmas.{placed_in_order, put_behind}
use Rattle.env_config.proofs.latest.without_places.Goals as goal

pub loop-key-preserved : goal.loop-key-preserved
loop-key-preserved c =
    let all = without_places (placed_of c.args.values.entries) in
    let rest = without_places (placed_of c.next.new.self) in
    let left = ap (λ (es : List (String Global × (ℕ × String Global))). c.loop-key.texts ++ without_places (placed_of es)) c.in-Some.ensures.steps in
    let ordered = c.into_iter-key-iterator.ensures.into_iter_gives.5 in
    ap (λ (texts : List (List ℕ × List ℕ)). texts ++ rest) c.in_ok-put.ensures
    ∙ put_behind c.loop-key.texts all rest (string_bytes c.in-Some.key, string_bytes c.in-Some.value) (sym left ∙ c.loop-key.invariant) (placed_in_order c.args.values.entries ordered)
