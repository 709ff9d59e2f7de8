use Rattle.std.proofs.Common.{sym, subst, List, String, Global}
use Rattle.env_config.specs.Texts.{pairs_of}
use Rattle.env_config.proofs.FewLemmas.{AreInOrder, removed_in_order}
use Rattle.env_config.proofs.few_pairs.FewPairs.take_first.Goals as goal

pub invariant_of-self : goal.invariant_of-self
invariant_of-self c = subst (λ (xs : List (String Global × String Global)). AreInOrder (pairs_of xs)) (sym c.remove.ensures.items) (removed_in_order c.self.inside.pairs.items c.self.invariant)
