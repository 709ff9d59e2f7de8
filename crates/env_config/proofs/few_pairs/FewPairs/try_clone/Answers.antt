use Rattle.std.proofs.Common.{◌≡◌, ◌∙◌, ap₂, sym, subst, List, ℕ, String, Global, string_bytes}
use Rattle.env_config.specs.Texts.{pairs_of}
use Rattle.env_config.proofs.CloneLemmas.{map_alike}
use Rattle.env_config.proofs.FewLemmas.{AreInOrder}
use Rattle.env_config.proofs.few_pairs.FewPairs.try_clone.Goals as goal

copied : (c : goal.In_ok-clone) → pairs_of c.in_ok-clone.field-0.items ≡ pairs_of c.self.inside.pairs.items
copied c =
    map_alike _ (λ (e : String Global × String Global). (string_bytes e.0, string_bytes e.1)) (λ x y same. ap₂ (λ (k v : List ℕ). (k, v)) same.0 same.1) c.self.inside.pairs.items c.in_ok-clone.field-0.items c.in_ok-clone.ensures.cases.0

pub invariant_of-result : goal.invariant_of-result
invariant_of-result c = subst AreInOrder (sym (copied c)) c.self.invariant

pub returns : goal.returns
returns c = copied c ∙ c.self.view_is
