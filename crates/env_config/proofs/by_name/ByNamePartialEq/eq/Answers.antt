use Rattle.std.proofs.Common.{◌∙◌, ap₂}
use Rattle.env_config.specs.Texts.{Named, same_values}
use Rattle.env_config.proofs.CloneLemmas.{same_seen}
use Rattle.env_config.proofs.by_name.ByNamePartialEq.eq.Goals as goal

pub returns : goal.returns
returns g c =
    c.eq.ensures ∙ same_seen g.V.PartialEq.eq c.self.inside.values.entries c.other.inside.values.entries
    ∙ ap₂ (λ (a b : Named g.row.V.Denot). same_values g.V.PartialEq.eq a.values b.values) c.self.view_is c.other.view_is
