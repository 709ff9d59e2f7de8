use Rattle.std.proofs.Common.{◌∙◌, ap, subst, sym, Bool, cond, string_bytes}
use Rattle.env_config.specs.Section.{IsKeyed}
use Rattle.env_config.specs.SectionProperties.{property_values}
use Rattle.env_config.specs.Sections.{is_identifier}
use Rattle.env_config.specs.Texts.{put}
use Rattle.env_config.proofs.KeyedLemmas.{put_keyed}
use Rattle.env_config.proofs.MergeLemmas.{values_put}
use Rattle.env_config.proofs.merge.put_pair.Goals as goal

pub returns-in_ok-put-clause-values : goal.returns-in_ok-put-clause-values
returns-in_ok-put-clause-values c =
    let values = property_values c.args.properties.now in
    let key = string_bytes c.args.key in
    let value = string_bytes c.args.value in
    ap property_values c.in_ok-put.ensures ∙ values_put c.args.properties.now key value
    ∙ sym (ap (λ (b : Bool). cond b (put values key value) values) (sym (c.is_identifier.ensures ∙ ap is_identifier c.as_str.ensures.value) ∙ c.if-is_identifier.true))

pub returns-in_ok-put-clause-keys : goal.returns-in_ok-put-clause-keys
returns-in_ok-put-clause-keys c keyed = subst IsKeyed (sym c.in_ok-put.ensures) (put_keyed c.args.properties.now (string_bytes c.args.key) (string_bytes c.args.value) keyed)
