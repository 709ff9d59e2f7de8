use Rattle.std.proofs.Common.{sym, subst, List, String, Global}
use Rattle.env_config.specs.Texts.{pairs_of}
use Rattle.env_config.proofs.FewLemmas.{AreInOrder, none_in_order}
use Rattle.env_config.proofs.few_pairs.FewPairs.new.Goals as goal

pub invariant_of-result : goal.invariant_of-result
invariant_of-result c = subst (λ (xs : List (String Global × String Global)). AreInOrder (pairs_of xs)) (sym c.new.ensures.items) none_in_order
