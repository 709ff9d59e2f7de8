use Rattle.std.proofs.Common.{◌≡◌, ◌∙◌, ap, sym, subst, List, [], ℕ}
use Rattle.std.specs.Prelude.{Some, None, Option, map, option_map, string_bytes, unwrap_or}
use Rattle.std.specs.BTreeMap.{insert_entry}
use Rattle.std.specs.List.Sorted.{IsStrictlySortedBy}
use Rattle.env_config.specs.Properties.{Subs, names_cmp, others_in, others_of, properties_in, put_sub_at, sections_in}
use Rattle.env_config.specs.PropertiesKey.{key_of, names_of}
use Rattle.env_config.specs.Sections.{Key, put_at_key}
use Rattle.env_config.specs.Texts.{text_cmp}
use Rattle.env_config.proofs.GroupLemmas.{groups_of, on_err, on_ok, properties_of, section_found, section_put, section_same, section_sorted, section_through, whole_at, whole_put}
use Rattle.env_config.proofs.properties.Properties.insert.Goals as goal

pub returns-in-Some-clause-ok : goal.returns-in-Some-clause-ok
returns-in-Some-clause-ok c =
    let es = c.args.self.now.sections.entries in
    let groups = sections_in c.args.self.now in
    let section = c.into_parts-section.result.0 in
    let names = names_of section in
    let property = string_bytes c.into_parts-section.result.1 in
    let sub = option_map string_bytes c.into_parts-section.result.2 in
    let value = string_bytes c.args.value in
    let old = c.in-Some.properties.now in
    let w = c.insert_property.new.properties in
    let now = c.get_mut.follows.lender w in
    let put_is = section_through es now.entries section old w (c.get_mut.follows.holds w).0 c.get_mut.ensures.ordered c.in-Some.ensures.value in
    let before = sym (ap (λ (o : Option (List (List ℕ × Subs))). unwrap_or o []) (section_found es section (Some old) c.in-Some.ensures.value)) in
    let sorted = subst (λ (p : List (List ℕ × Subs)). IsStrictlySortedBy text_cmp (map (λ e. e.0) p)) before c.insert_property.ensures.ordered in
    on_ok (properties_in w ≡ put_sub_at (properties_in old) property sub value) (others_in (groups_of now.entries) ≡ put_at_key (others_of c.args.self.now) (key_of c.args.key) value) c.insert_property.result
    (λ is.
    ap others_in put_is
    ∙ ap (whole_at groups names) (is ∙ ap (λ (p : List (List ℕ × Subs)). put_sub_at p property sub value) before)
    ∙ whole_put groups names property sub value (section_sorted es section c.get_mut.ensures.ordered) sorted
    ∙ ap (λ (k : Key). put_at_key (others_in groups) k value) (sym c.into_parts-section.ensures)) c.insert_property.ensures.ok

pub returns-in-Some-clause-err : goal.returns-in-Some-clause-err
returns-in-Some-clause-err c =
    let es = c.args.self.now.sections.entries in
    let old = c.in-Some.properties.now in
    let w = c.insert_property.new.properties in
    let now = c.get_mut.follows.lender w in
    on_err (properties_in w ≡ properties_in old) (others_in (groups_of now.entries) ≡ others_of c.args.self.now) c.insert_property.result
    (λ is. ap others_in (section_same es now.entries c.into_parts-section.result.0 old w (c.get_mut.follows.holds w).0 c.in-Some.ensures.value is)) c.insert_property.ensures.err

pub returns-in_ok-insert-in-None-clause-ok : goal.returns-in_ok-insert-in-None-clause-ok
returns-in_ok-insert-in-None-clause-ok c =
    let es = c.args.self.now.sections.entries in
    let groups = sections_in c.args.self.now in
    let section = c.into_parts-section.result.0 in
    let names = names_of section in
    let property = string_bytes c.into_parts-section.result.1 in
    let sub = option_map string_bytes c.into_parts-section.result.2 in
    let value = string_bytes c.args.value in
    let w = c.insert_property-in-None.new.properties in
    let before =
    ap properties_of c.new-properties.ensures.empty
    ∙ sym (ap (λ (o : Option (List (List ℕ × Subs))). unwrap_or o []) (section_found es section None c.in-None.ensures.value)) in
    let sorted = subst (λ (p : List (List ℕ × Subs)). IsStrictlySortedBy text_cmp (map (λ e. e.0) p)) before c.in_ok-insert_property-in-None.ensures.ordered in
    ap others_in (section_put c.get_mut.follows.lender-at-none.entries c.insert.new.self.entries section w c.in_ok-insert-in-None.ensures.entries
    ∙ ap (λ m. insert_entry names_cmp (groups_of m.entries) names (properties_in w)) c.get_mut.follows.holds-at-none)
    ∙ ap (whole_at groups names) (c.in_ok-insert_property-in-None.ensures.ok ∙ ap (λ (p : List (List ℕ × Subs)). put_sub_at p property sub value) before)
    ∙ whole_put groups names property sub value (section_sorted es section c.get_mut.ensures.ordered) sorted
    ∙ ap (λ (k : Key). put_at_key (others_in groups) k value) (sym c.into_parts-section.ensures)
