use Rattle.std.proofs.Common.{ℕ, List, Bor, rules}
use Rattle.std.proofs.lemmas.List.Sorted.{answers_always}
use Rattle.sigv4.proofs.ByNameLemmas.{sorted_by_name}
use Rattle.sigv4.proofs.chunk.sort_by_name.Goals as goal

pub returns : goal.returns
returns c =
    let key = answers_always _ _ _ (λ f a r g h. search rules) in
    sorted_by_name (λ (value : Bor (List ℕ)). value.now) _ _ (c.in_ok-sort_by_key.ensures.sorted (λ p. p.0) key) (c.sort_by_key.ensures.stable (λ p. p.0) key)
