use Rattle.std.proofs.Common.{ap, ap₂, List, ℕ, String, Global, string_bytes}
use Rattle.std.specs.Prelude.{Option, option_map}
use Rattle.std.specs.BTreeMap.{BTreeMap}
use Rattle.env_config.specs.Properties.{Subs, others_in, properties_in, subs_in}
use Rattle.env_config.specs.PropertiesKey.{names_of}
use Rattle.env_config.specs.declared.properties_key.SectionNames.{SectionNames}
use Rattle.env_config.proofs.CloneLemmas.{map_alike}
use Rattle.env_config.proofs.GroupLemmas.{option_copied_alike}
use Rattle.env_config.proofs.properties.Properties.try_clone.Tie.{ghosts-0-2-39-4}
use Rattle.env_config.proofs.properties.Properties.try_clone.Goals as goal

pub returns : goal.returns
returns c =
    ap others_in (map_alike _ (λ (e : SectionNames × BTreeMap (String Global) (BTreeMap (Option (String Global)) (String Global))). (names_of e.0, properties_in e.1))
    (λ x y same. ap₂ (λ (n : List ℕ × List ℕ) (p : List (List ℕ × Subs)). (n, p)) same.0
    (map_alike _ (λ (e : String Global × BTreeMap (Option (String Global)) (String Global)). (string_bytes e.0, subs_in e.1))
    (λ v w alike. ap₂ (λ (n : List ℕ) (s : Subs). (n, s)) alike.0 (map_alike _ (λ (e : Option (String Global) × String Global). (option_map string_bytes e.0, string_bytes e.1)) (λ a b one. ap₂ (λ (n : Option (List ℕ)) (t : List ℕ). (n, t)) (option_copied_alike (ghosts-0-2-39-4 c.clone.lifetimes).is_clone (λ s t same. same) (λ t none. none) (λ s none. none) a.0 b.0 one.0) one.1) v.1.entries w.1.entries alike.1)) x.1.entries y.1.entries same.1))
    c.args.self.now.sections.entries c.in_ok-clone.field-0.entries c.in_ok-clone.ensures.cases)
