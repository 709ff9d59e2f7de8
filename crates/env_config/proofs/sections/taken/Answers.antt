use Rattle.std.proofs.Common.{◌∙◌, ap, List, ℕ, []}
use Rattle.std.specs.Prelude.{Option, unwrap_or}
use Rattle.env_config.proofs.ApartLemmas.{removed_others}
use Rattle.env_config.proofs.TextsLemmas.{word_found}
use Rattle.env_config.proofs.sections.taken.Goals as goal

pub returns-in-Some-clause-texts : goal.returns-in-Some-clause-texts
returns-in-Some-clause-texts c =
    ap (λ (found : Option (List (List ℕ × List ℕ))). unwrap_or found []) (c.in-Some.ensures.value ∙ word_found c.args.texts.now.entries c.args.name.now)

pub returns-in-Some-clause-others : goal.returns-in-Some-clause-others
returns-in-Some-clause-others c = removed_others c.args.texts.now.entries c.remove.new.self.entries c.args.name.now c.in-Some.ensures.entries

pub returns-in-None-clause-texts : goal.returns-in-None-clause-texts
returns-in-None-clause-texts c =
    c.new.ensures
    ∙ ap (λ (found : Option (List (List ℕ × List ℕ))). unwrap_or found []) (c.in-None.ensures.value ∙ word_found c.args.texts.now.entries c.args.name.now)
