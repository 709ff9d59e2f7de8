use Rattle.std.proofs.Common.{◌≡◌, true, subst, List, ℕ}
use Rattle.std.specs.List.{AllByRecursion}
use Rattle.env_config.specs.Sections.{is_identifier}
use Rattle.env_config.proofs.SectionLemmas.{put_identified}
use Rattle.env_config.proofs.texts.Texts.has_identifiers.Goals as goal

pub returns : goal.returns
returns c is =
    let Identified : List (List ℕ × (List ℕ × List ℕ)) → Type 0 = AllByRecursion (λ e. is_identifier e.0 ≡ true) in
    put_identified c.args.self.now c.entries.ensures.ordered (subst Identified c.entries.ensures.left (c.has_identifiers.ensures is))
