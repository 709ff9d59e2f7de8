use Rattle.std.proofs.Common.{◌≡◌, ◌∙◌, ap₂, sym, subst, List, ℕ}
use Rattle.std.specs.Prelude.{Some, None, Option}
use Rattle.std.specs.BTreeMap.{is_at}
use Rattle.std.specs.Map.{lookup}
use Rattle.env_config.specs.Properties.{names_cmp, properties_in, sections_in, sub_at}
use Rattle.env_config.specs.PropertiesKey.{key_of}
use Rattle.env_config.proofs.GroupLemmas.{part_found, section_found, section_sorted, whole_found}
use Rattle.env_config.proofs.properties.Properties.get.Goals as goal

pub returns-in-Some : goal.returns-in-Some
returns-in-Some c =
    let es = c.args.self.now.sections.entries in
    let groups = sections_in c.args.self.now in
    let key = key_of c.args.key.now in
    let section = c.section.result.now in
    let properties = c.in-Some.properties.now in
    let found = subst (λ names. lookup (is_at (names_cmp names)) groups ≡ Some (properties_in properties)) c.section.ensures (section_found es section (Some properties) c.in-Some.ensures.value) in
    c.property_value.ensures.value
    ∙ ap₂ (λ (property : List ℕ) (sub : Option (List ℕ)). sub_at (properties_in properties) property sub) c.property_name.ensures c.sub_property_name.ensures
    ∙ sym (whole_found groups (key.section_key, key.section_name) key.property_name key.sub_property_name (Some (properties_in properties)) (section_sorted es section c.len-count.ensures.ordered) (sym found)
    ∙ part_found (properties_in properties) key.property_name key.sub_property_name c.property_value.ensures.ordered)

pub returns-in-None : goal.returns-in-None
returns-in-None c =
    let es = c.args.self.now.sections.entries in
    let groups = sections_in c.args.self.now in
    let key = key_of c.args.key.now in
    let section = c.section.result.now in
    let found = subst (λ names. lookup (is_at (names_cmp names)) groups ≡ None) c.section.ensures (section_found es section None c.in-None.ensures.value) in
    sym (whole_found groups (key.section_key, key.section_name) key.property_name key.sub_property_name None (section_sorted es section c.len-count.ensures.ordered) (sym found))
