-- The sink that keeps all properties takes sections and properties.
use Rattle.std.proofs.Common.{◌≡◌, ℕ, List, [], sym, ap, ap₂, ◌∙◌}
use Rattle.std.specs.Prelude.{Option, Some, unwrap_or, Result, Ok, Err, OnOk}
use Rattle.std.specs.Option.{option_copied}
use Rattle.env_config.specs.declared.sections_sink.SectionsSink.{SectionsSink}
use Rattle.env_config.specs.Raw.{everything, properties_of}
use Rattle.env_config.specs.SectionsSink.{StandsForSections, with_open}
use Rattle.env_config.specs.Texts.{Named, put, put_named, value_under}
use Rattle.env_config.proofs.RawLemmas.{put_over}

-- the properties that are taken, to go on with
pub taken_is : (sections left : Named (List (List ℕ × List ℕ))) (name : List ℕ) (fresh properties : List (List ℕ × List ℕ)) (before : Option (List (List ℕ × List ℕ)))
    → ((value : List (List ℕ × List ℕ)) → put_named left name value ≡ put_named sections name value) → before ≡ value_under sections.values name → fresh ≡ [] → properties ≡ unwrap_or before fresh
    → put_named left name properties ≡ put_named sections name (properties_of sections name)
taken_is sections left name fresh properties before later before_is fresh_is properties_is =
    later properties ∙ ap (put_named sections name) (properties_is ∙ ap₂ unwrap_or before_is fresh_is)

-- a property is put into the section that is open
pub put_stands : {E : Type 0} (old now : SectionsSink) (name key value : List ℕ) (sections : Named (List (List ℕ × List ℕ))) (result : Result (Unit {0}) E) → StandsForSections old (Some name) sections → now.name ≡ old.name → now.sections ≡ old.sections
    → OnOk result (now.properties ≡ put old.properties key value) → OnOk result (StandsForSections now (Some name) (put_named sections name (put (properties_of sections name) key value)))
put_stands old now name key value sections (Err fault) stands named same puts = tt
put_stands old now name key value sections (Ok _) stands named same puts =
    let before = put_named old.sections name old.properties in
    let is : sections ≡ before = stands.sections_are ∙ ap (λ (at : Option (List ℕ)). with_open old.sections at old.properties) (sym stands.at_is) in
    let at_is : Some name ≡ option_copied now.name = stands.at_is ∙ ap option_copied (sym named) in
    record {
      at_is = at_is;
      sections_are = ap (λ (s : Named (List (List ℕ × List ℕ))). put_named s name (put (properties_of s name) key value)) is
          ∙ put_over everything old.sections name old.properties (λ properties. put properties key value)
          ∙ ap₂ (λ (s : Named (List (List ℕ × List ℕ))) (properties : List (List ℕ × List ℕ)). put_named s name properties) (sym same) (sym puts)
          ∙ ap (λ (at : Option (List ℕ)). with_open now.sections at now.properties) at_is;
    }
