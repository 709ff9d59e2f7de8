use Rattle.std.proofs.Common.{◌≡◌, ◌∙◌, ◌+◌, ◌∷◌, ap, sym, refl, subst, List, ℕ, [], get_or, map, drop}
use Rattle.env_config.specs.Kept.{keeps_of}
use Rattle.env_config.specs.Sections.{with_names}
use Rattle.env_config.specs.Texts.{IsApart, Named, value_under, words_of}
use Rattle.env_config.specs.EnvConfigSections.{sections_of}
use Rattle.env_config.proofs.ApartLemmas.{all_always, name_merged, names_alike, names_front, no_word}
use Rattle.env_config.proofs.TextsLemmas.{word_of}
use Rattle.env_config.proofs.sections.EnvConfigSections.merge_file.Goals as goal

pub loop-name-init : goal.loop-name-init
loop-name-init c =
    let keeps = keeps_of c.args.kept.now in
    let raw = c.args.raw in
    let texts : Named (List (List ℕ × List ℕ)) = record { names = []; values = words_of c.into_parts-names.result.1.entries } in
    let overridden = c.has_profile_default-overridden.result in
    let before = sections_of c.args.self.now in
    let names : map word_of c.deref-name-items.result.now ≡ raw.names = ap (map word_of) c.deref-name-items.ensures.value ∙ c.into_parts-names.ensures.names in
    record {
      to_come = ap (with_names keeps before c.args.kind overridden texts) names
          ∙ names_alike keeps before c.args.kind overridden raw texts raw.names
          (all_always (λ (name : List ℕ). value_under texts.values name ≡ value_under raw.values name) (λ name. ap (λ (values : List (List ℕ × List (List ℕ × List ℕ))). value_under values name) c.into_parts-names.ensures.values) raw.names);
      apart = subst IsApart (sym names) c.requires;
      selected = refl;
      keys = λ keyed. keyed;
    }

pub loop-name-preserved : goal.loop-name-preserved
loop-name-preserved c =
    let keeps = keeps_of c.args.kept.now in
    let items = c.deref-name-items.result.now in
    let name = (get_or items c.loop-name.name-index no_word).now in
    let rest = map word_of (drop (c.loop-name.name-index + 1) items) in
    let front = names_front items c.loop-name.name-index c.loop-name-test.true in
    let apart : IsApart (name ∷ rest) = subst IsApart front c.loop-name.invariant.apart in
    let overridden = c.has_profile_default-overridden.result in
    let before = sections_of c.loop-name.self in
    let texts : Named (List (List ℕ × List ℕ)) = record { names = []; values = words_of c.loop-name.texts.entries } in
    let left : Named (List (List ℕ × List ℕ)) = record { names = []; values = words_of c.merge_named.new.texts.entries } in
    record {
      to_come = name_merged keeps before (sections_of c.merge_named.new.self) c.args.kind overridden texts left name rest c.in_ok-merge_named.ensures.sections c.in_ok-merge_named.ensures.others apart
          ∙ sym (ap (with_names keeps before c.args.kind overridden texts) front)
          ∙ c.loop-name.invariant.to_come;
      apart = apart.1;
      selected = c.merge_named.ensures.selected ∙ c.loop-name.invariant.selected;
      keys = λ keyed. c.in_ok-merge_named.ensures.keys (c.loop-name.invariant.keys keyed);
    }
