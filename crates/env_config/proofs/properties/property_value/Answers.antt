use Rattle.std.proofs.Common.{◌∙◌, ap, sym}
use Rattle.std.specs.Prelude.{Some, None, option_map, string_bytes}
use Rattle.std.specs.Option.{option_and_then}
use Rattle.env_config.specs.Properties.{Subs, named_sub}
use Rattle.env_config.proofs.GroupLemmas.{property_found, property_sorted}
use Rattle.env_config.proofs.properties.property_value.Goals as goal

pub returns-in-Some-clause-value : goal.returns-in-Some-clause-value
returns-in-Some-clause-value c =
    c.sub_value.ensures
    ∙ sym (ap (option_and_then (λ (subs : Subs). named_sub subs (option_map string_bytes c.args.sub.now))) (property_found c.args.properties.now.entries c.args.property.now (Some c.in-Some.subs.now) c.in-Some.ensures.value))

pub returns-in-Some-clause-ordered : goal.returns-in-Some-clause-ordered
returns-in-Some-clause-ordered c = property_sorted c.args.properties.now.entries c.len-count.ensures.ordered

pub returns-in-None-clause-value : goal.returns-in-None-clause-value
returns-in-None-clause-value c =
    sym (ap (option_and_then (λ (subs : Subs). named_sub subs (option_map string_bytes c.args.sub.now))) (property_found c.args.properties.now.entries c.args.property.now None c.in-None.ensures.value))

pub returns-in-None-clause-ordered : goal.returns-in-None-clause-ordered
returns-in-None-clause-ordered c = property_sorted c.args.properties.now.entries c.len-count.ensures.ordered
