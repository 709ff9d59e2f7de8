use Rattle.std.proofs.Common.{◌∙◌, ap, subst, List, map, ℕ, String, Global, string_bytes}
use Rattle.std.specs.List.{AllZip}
use Rattle.env_config.specs.Texts.{CopiedUnder, Named}
use Rattle.env_config.proofs.CloneLemmas.{map_alike, zip_seen}
use Rattle.env_config.proofs.by_name.ByName.try_clone.Goals as goal

pub returns-clause-names : goal.returns-clause-names
returns-clause-names g c =
    map_alike _ (λ (name : String Global). string_bytes name) (λ x y same. same) c.self.inside.names.items c.in_ok-clone.field-0.items c.in_ok-clone.ensures.cases.0
    ∙ ap (λ (named : Named g.row.V.Denot). named.names) c.self.view_is

pub returns-clause-values : goal.returns-clause-values
returns-clause-values g c =
    let seen : String Global × g.row.V.Denot → List ℕ × g.row.V.Denot = λ e. (string_bytes e.0, e.1) in
    let P : Named g.row.V.Denot → Type 0 = λ named. AllZip (CopiedUnder g.V.Clone.is_clone) named.values (map seen c.in_ok-clone-2.field-0.entries) in
    subst P c.self.view_is (zip_seen _ (CopiedUnder g.V.Clone.is_clone) seen (λ x y same. same) c.self.inside.values.entries c.in_ok-clone-2.field-0.entries c.in_ok-clone-2.ensures.cases)
