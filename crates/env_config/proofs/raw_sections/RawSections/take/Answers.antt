use Rattle.std.proofs.Common.{◌≡◌, ◌∙◌, ap, refl, None, Some, List, ℕ}
use Rattle.env_config.specs.Texts.{Named, put_named, value_under}
use Rattle.env_config.proofs.SpreadLemmas.{written_later}
use Rattle.env_config.proofs.TextsLemmas.{word_cmp, word_found, word_of}
use Rattle.env_config.proofs.raw_sections.RawSections.take.Goals as goal

pub returns-clause-before : goal.returns-clause-before
returns-clause-before c =
    ap (λ (pairs : List (List ℕ × List ℕ)). Some pairs) c.replace.ensures.value ∙ c.in_ok-properties.ensures.value
    ∙ word_found c.self.inside.properties.entries c.args.name.now
    ∙ ap (λ (named : Named (List (List ℕ × List ℕ))). value_under named.values c.args.name.now) c.self.view_is

pub returns-clause-later : goal.returns-clause-later
returns-clause-later c value =
    let w = c.replace.new.dest in
    written_later word_cmp word_of (λ _ _. refl) c.self.inside.names.items c.self.inside.properties.entries (c.get_mut.follows.lender w).entries c.args.name.now c.in_ok-properties.properties.now w
    (c.get_mut.follows.holds w).0 c.get_mut.ensures.ordered c.in_ok-properties.ensures.value value
    ∙ ap (λ (named : Named (List (List ℕ × List ℕ))). put_named named c.args.name.now value) c.self.view_is

pub returns-in_err-properties-clause-before : goal.returns-in_err-properties-clause-before
returns-in_err-properties-clause-before c =
    let none : None ≡ value_under c.args.self.now.values c.args.name.now =
    c.in_err-properties.ensures.value ∙ word_found c.self.inside.properties.entries c.args.name.now
    ∙ ap (λ (named : Named (List (List ℕ × List ℕ))). value_under named.values c.args.name.now) c.self.view_is in
    c.from_residual.ensures ∙ none
