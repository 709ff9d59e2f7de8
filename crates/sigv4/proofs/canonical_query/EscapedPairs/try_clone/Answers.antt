use Rattle.std.proofs.Common.{◌∙◌}
use Rattle.sigv4.proofs.CopyLemmas.{pairs_copied}
use Rattle.sigv4.proofs.canonical_query.EscapedPairs.try_clone.Goals as goal

pub returns : goal.returns
returns c = pairs_copied c.self.inside.pairs.items c.in_ok-clone.field-0.items c.in_ok-clone.ensures.cases.0 ∙ c.self.view_is
