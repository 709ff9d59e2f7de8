use Rattle.std.proofs.Common.{rules}
use Rattle.std.proofs.lemmas.List.Sorted.{answers_always}
use Rattle.sigv4.proofs.HeaderLemmas.{sorted-held}
use Rattle.sigv4.proofs.canonical_headers.sort_by_name.Goals as goal

pub returns : goal.returns
returns c =
    let key = answers_always _ _ _ (λ f a r g h. search rules) in
    λ settings pairs holds. sorted-held settings pairs _ _ (c.in_ok-sort_by_key.ensures.sorted (λ p. p.0) key) (c.sort_by_key.ensures.stable (λ p. p.0) key) holds
