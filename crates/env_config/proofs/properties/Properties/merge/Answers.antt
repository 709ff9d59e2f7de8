use Rattle.std.proofs.Common.{◌≡◌, ◌∙◌, ap, sym, List, [], ℕ}
use Rattle.std.specs.Prelude.{Some, None, Option, unwrap_or}
use Rattle.std.specs.BTreeMap.{insert_entry}
use Rattle.std.proofs.lemmas.List.{nil_from_length}
use Rattle.env_config.specs.Kept.{keeps_of}
use Rattle.env_config.specs.Properties.{Subs, names_cmp, others_in, properties_in, sections_in}
use Rattle.env_config.specs.PropertiesKey.{names_of}
use Rattle.env_config.specs.Sections.{put_others}
use Rattle.env_config.proofs.GroupLemmas.{groups_of, on_ok, properties_of, section_filled, section_found, section_put, section_sorted, section_through, section_unfilled, whole_at, whole_holds}
use Rattle.env_config.proofs.properties.Properties.merge.Goals as goal

pub returns-in-Some : goal.returns-in-Some
returns-in-Some c =
    let es = c.args.self.now.sections.entries in
    let groups = sections_in c.args.self.now in
    let section = c.args.section in
    let names = names_of section in
    let keeps = keeps_of c.args.kept.now in
    let pairs = c.args.pairs in
    let old = c.in-Some.properties.now in
    let w = c.put_properties.new.properties in
    let now = c.get_mut.follows.lender w in
    let ordered = section_sorted es section c.get_mut.ensures.ordered in
    let put_is = section_through es now.entries section old w (c.get_mut.follows.holds w).0 c.get_mut.ensures.ordered c.in-Some.ensures.value in
    let before = sym (ap (λ (o : Option (List (List ℕ × Subs))). unwrap_or o []) (section_found es section (Some old) c.in-Some.ensures.value)) in
    on_ok (whole_at groups names (properties_in w) ≡ put_others keeps (whole_at groups names (properties_in old)) names.0 names.1 pairs) (others_in (groups_of now.entries) ≡ put_others keeps (others_in groups) names.0 names.1 pairs) c.put_properties.result
    (section_filled groups (groups_of now.entries) names keeps (properties_in old) (properties_in w) pairs ordered before put_is)
    (c.put_properties.ensures (whole_at groups names) names.0 names.1 (whole_holds groups names ordered))

pub returns-in_ok-insert-in-None : goal.returns-in_ok-insert-in-None
returns-in_ok-insert-in-None c =
    let es = c.args.self.now.sections.entries in
    let groups = sections_in c.args.self.now in
    let section = c.args.section in
    let names = names_of section in
    let w = c.put_properties-in-None.new.properties in
    let ordered = section_sorted es section c.get_mut.ensures.ordered in
    let before =
    ap properties_of c.new-properties.ensures.empty
    ∙ sym (ap (λ (o : Option (List (List ℕ × Subs))). unwrap_or o []) (section_found es section None c.in-None.ensures.value)) in
    let put_is =
    section_put c.get_mut.follows.lender-at-none.entries c.insert.new.self.entries section w c.in_ok-insert-in-None.ensures.entries
    ∙ ap (λ m. insert_entry names_cmp (groups_of m.entries) names (properties_in w)) c.get_mut.follows.holds-at-none in
    section_filled groups (groups_of c.insert.new.self.entries) names (keeps_of c.args.kept.now) (properties_in c.new-properties.result) (properties_in w) c.args.pairs ordered before put_is
    (c.in_ok-put_properties-in-None.ensures (whole_at groups names) names.0 names.1 (whole_holds groups names ordered))

pub returns-then-is_empty : goal.returns-then-is_empty
returns-then-is_empty c =
    let es = c.args.self.now.sections.entries in
    let groups = sections_in c.args.self.now in
    let section = c.args.section in
    let names = names_of section in
    let w = c.put_properties-in-None.new.properties in
    let ordered = section_sorted es section c.get_mut.ensures.ordered in
    let empty = ap properties_of c.new-properties.ensures.empty in
    let before = empty ∙ sym (ap (λ (o : Option (List (List ℕ × Subs))). unwrap_or o []) (section_found es section None c.in-None.ensures.value)) in
    let after = ap properties_of (nil_from_length w.entries (c.is_empty.ensures.0 c.if-is_empty.true)) ∙ sym empty in
    ap (λ m. others_in (groups_of m.entries)) c.get_mut.follows.holds-at-none
    ∙ section_unfilled groups names (keeps_of c.args.kept.now) (properties_in c.new-properties.result) (properties_in w) c.args.pairs ordered before after
    (c.in_ok-put_properties-in-None.ensures (whole_at groups names) names.0 names.1 (whole_holds groups names ordered))
