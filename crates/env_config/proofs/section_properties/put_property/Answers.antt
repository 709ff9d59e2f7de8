use Rattle.std.proofs.Common.{◌∙◌, ap₂, List, ℕ, string_bytes}
use Rattle.env_config.proofs.SectionLemmas.{property_put}
use Rattle.env_config.proofs.section_properties.put_property.Goals as goal

pub returns : goal.returns
returns c =
    property_put c.args.properties.now.entries c.insert.new.self.entries c.args.key c.new-property.result (string_bytes c.args.value) c.in_ok-insert.ensures.entries
    (ap₂ (λ (k v : List ℕ). (k, v)) (c.new-property.ensures.key ∙ c.in_ok-clone.ensures.cases) c.new-property.ensures.value)
