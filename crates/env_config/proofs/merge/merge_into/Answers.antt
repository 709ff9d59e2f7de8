use Rattle.std.proofs.Common.{◌∙◌, sym, subst, ap, List, ℕ}
use Rattle.env_config.specs.Section.{IsKeyed, IsKeyedSection, section_of}
use Rattle.env_config.specs.SectionProperties.{property_values}
use Rattle.env_config.specs.Sections.{Section}
use Rattle.env_config.proofs.KeyedLemmas.{put_passes, value_passes}
use Rattle.env_config.proofs.MergeLemmas.{merged}
use Rattle.env_config.proofs.merge.merge_into.Goals as goal

pub returns-clause-merged : goal.returns-clause-merged
returns-clause-merged g c =
    let properties = property_values c.in_ok-properties.properties in
    let make : List ℕ → List (List ℕ × List ℕ) → Section = λ name properties. record { name = name; properties = properties } in
    merged (λ s. section_of (g.S.SectionKind.held s)) c.args.sections.now c.take-before.new.self c.replace.new.self c.args.name.now c.args.pairs properties c.of_section.result c.take-before.result
    c.take-before.ensures.later c.take-before.ensures.before c.in_ok-properties.ensures.values
    (ap section_of c.of_section.ensures ∙ c.new-section.ensures.section ∙ ap (λ (name : List ℕ). make name properties) c.in_ok-from_str.ensures.ok)
    c.in_ok-replace.ensures.now

pub returns-clause-keys : goal.returns-clause-keys
returns-clause-keys g c each =
    let Keyed : g.row.S.Denot → Type 0 = λ s. IsKeyedSection (g.S.SectionKind.held s) in
    let before = value_passes Keyed c.args.sections.now c.args.name.now c.take-before.result c.take-before.ensures.before each in
    let keyed = c.in_ok-properties.ensures.keys before in
    put_passes Keyed c.args.sections.now c.take-before.new.self c.replace.new.self c.args.name.now c.of_section.result c.take-before.ensures.later c.in_ok-replace.ensures.now each
    (subst IsKeyedSection (sym c.of_section.ensures) (subst IsKeyed (sym c.new-section.ensures.contents) keyed))
