use Rattle.std.proofs.Common.{◌∙◌, ap, sym, subst}
use Rattle.env_config.specs.TextsView.{pairs_in}
use Rattle.env_config.proofs.FewLemmas.{AreInOrder}
use Rattle.env_config.proofs.SectionLemmas.{bytes_sorted}
use Rattle.env_config.proofs.texts.Texts.entries.Goals as goal

pub returns-in-PairMap-clause-ordered : goal.returns-in-PairMap-clause-ordered
returns-in-PairMap-clause-ordered c = subst AreInOrder (sym (ap pairs_in c.in-PairMap.is) ∙ c.self.view_is) (bytes_sorted c.in-PairMap.pairs.entries c.iter.ensures.ordered)
