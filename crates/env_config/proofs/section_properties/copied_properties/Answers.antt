use Rattle.std.proofs.Common.{ap₂, List, ℕ, String, Global, string_bytes}
use Rattle.env_config.specs.Property.{property_pair}
use Rattle.env_config.specs.declared.property.Property.{Property}
use Rattle.env_config.proofs.CloneLemmas.{map_alike}
use Rattle.env_config.proofs.section_properties.copied_properties.Goals as goal

pub returns : goal.returns
returns c =
    map_alike _ (λ (e : String Global × Property). (string_bytes e.0, property_pair e.1)) (λ x y same. ap₂ (λ (k : List ℕ) (v : List ℕ × List ℕ). (k, v)) same.0 same.1) c.args.properties.now.entries c.in_ok-copy.copy.entries c.in_ok-copy.ensures.cases
