use Rattle.std.proofs.Common.{◌∙◌, ap}
use Rattle.env_config.specs.Texts.{Named, value_under}
use Rattle.env_config.proofs.TextsLemmas.{text_found}
use Rattle.env_config.proofs.by_name.ByName.get.Goals as goal

pub returns : goal.returns
returns g c =
    c.get.ensures.value ∙ text_found c.self.inside.values.entries c.args.name.now
    ∙ ap (λ (named : Named g.row.V.Denot). value_under named.values c.args.name.now) c.self.view_is
