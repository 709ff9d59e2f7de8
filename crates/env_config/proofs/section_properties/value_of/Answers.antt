use Rattle.std.proofs.Common.{◌∙◌, ap, sym, Bool, cond, Some}
use Rattle.smithy_core.specs.TextPairs.{lower}
use Rattle.env_config.specs.Entries.{entry_of, left_in}
use Rattle.env_config.specs.SectionProperties.{property_values}
use Rattle.env_config.specs.Texts.{value_under}
use Rattle.env_config.proofs.TextsLemmas.{lower_step}
use Rattle.env_config.proofs.section_properties.value_of.Goals as goal

pub returns-then-is_lower_of : goal.returns-then-is_lower_of
returns-then-is_lower_of c =
    let q = lower c.args.name.now in
    let entry = c.in-Some.entry in
    let rest = left_in c.next.new.self in
    sym (c.loop-entry.invariant
    ∙ lower_step (left_in c.loop-entry.entries) rest (entry_of entry) q c.is_lower_of.result c.in-Some.ensures.some c.is_lower_of.ensures
    ∙ ap (λ (b : Bool). cond b (Some entry.value.now) (value_under (property_values rest) q)) c.if-is_lower_of.true)

pub loop-entry-preserved : goal.loop-entry-preserved
loop-entry-preserved c =
    let q = lower c.args.name.now in
    let entry = c.in-Some.entry in
    let rest = left_in c.next.new.self in
    c.loop-entry.invariant
    ∙ lower_step (left_in c.loop-entry.entries) rest (entry_of entry) q c.is_lower_of.result c.in-Some.ensures.some c.is_lower_of.ensures
    ∙ ap (λ (b : Bool). cond b (Some entry.value.now) (value_under (property_values rest) q)) c.if-is_lower_of.false
