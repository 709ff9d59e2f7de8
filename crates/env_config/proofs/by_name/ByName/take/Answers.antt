use Rattle.std.proofs.Common.{◌≡◌, ◌∙◌, ap, refl, None, Some, List, ℕ, String, Global, string_bytes, string_cmp}
use Rattle.env_config.specs.Texts.{Named, put_named, value_under}
use Rattle.env_config.proofs.SpreadLemmas.{written_later}
use Rattle.env_config.proofs.TextsLemmas.{text_found}
use Rattle.env_config.proofs.by_name.ByName.take.Goals as goal

abbrev bytes_of : String Global → List ℕ
bytes_of s = string_bytes s

pub returns-clause-before : goal.returns-clause-before
returns-clause-before g c =
    ap (λ (v : g.row.V.Denot). Some v) c.replace.ensures.value ∙ c.in_ok-value.ensures.value
    ∙ text_found c.self.inside.values.entries c.args.name.now
    ∙ ap (λ (named : Named g.row.V.Denot). value_under named.values c.args.name.now) c.self.view_is

pub returns-clause-later : goal.returns-clause-later
returns-clause-later g c value =
    let w = c.replace.new.dest in
    written_later string_cmp bytes_of (λ _ _. refl) c.self.inside.names.items c.self.inside.values.entries (c.get_mut.follows.lender w).entries c.args.name.now c.in_ok-value.value.now w
    (c.get_mut.follows.holds w).0 c.get_mut.ensures.ordered c.in_ok-value.ensures.value value
    ∙ ap (λ (named : Named g.row.V.Denot). put_named named c.args.name.now value) c.self.view_is

pub returns-in_err-value-clause-before : goal.returns-in_err-value-clause-before
returns-in_err-value-clause-before g c =
    let none : None ≡ value_under c.args.self.now.values c.args.name.now =
    c.in_err-value.ensures.value ∙ text_found c.self.inside.values.entries c.args.name.now
    ∙ ap (λ (named : Named g.row.V.Denot). value_under named.values c.args.name.now) c.self.view_is in
    c.from_residual.ensures ∙ none
