-- Steps of the raw state: sections and properties that are put twice.
use Rattle.std.proofs.Common.{◌≡◌, ℕ, Bool, true, false, cond, List, [], refl, sym, ap, ◌∙◌}
use Rattle.std.specs.Prelude.{Option, unwrap_or, Result, Ok, Err}
use Rattle.env_config.specs.declared.line.PropertyFault.{PropertyFault}
use Rattle.env_config.specs.declared.line.PropertyFault.TheVariants.{NoEquals, NoName}
use Rattle.env_config.specs.Line.{property_of}
use Rattle.env_config.specs.Raw.{Keeps, Last, continued, grown, properties_of, put_property, put_section, sub_checked}
use Rattle.env_config.specs.Texts.{Named, put, put_named}
use Rattle.env_config.proofs.TextsLemmas.{named_twice, put_twice, value_put}

-- a section that is put twice
pub put_over : (keeps : Keeps) (sections : Named (List (List ℕ × List ℕ))) (name : List ℕ) (properties : List (List ℕ × List ℕ)) (step : List (List ℕ × List ℕ) → List (List ℕ × List ℕ))
    → put_section keeps (put_section keeps sections name properties) name (step (properties_of (put_section keeps sections name properties) name)) ≡ put_section keeps sections name (step properties)
put_over keeps sections name properties step = by (keeps.section name)
  where
    by : (b : Bool) → let now = cond b (put_named sections name properties) sections in
        cond b (put_named now name (step (properties_of now name))) now ≡ cond b (put_named sections name (step properties)) sections
    by false = refl
    by true =
        ap (λ (before : Option (List (List ℕ × List ℕ))). put_named (put_named sections name properties) name (step (unwrap_or before []))) (value_put sections.values name properties)
        ∙ named_twice sections name properties (step properties)

-- a continuation keeps the key
pub key_kept : (last next : Last) (line : List ℕ) → continued last line ≡ Ok next → next.key ≡ last.key
unfolding continued
key_kept last next line is = by last.is_parent (property_of line) is
  where
    key_or : Result Last (List ℕ) → List ℕ
    key_or (Ok last) = last.key
    key_or (Err message) = message

    by : (parent : Bool) (property : Result (List ℕ × List ℕ) PropertyFault) → cond parent (sub_checked property (grown last line)) (Ok (grown last line)) ≡ Ok next → next.key ≡ last.key
    by false property e = sym (ap key_or e)
    by true (Ok pair) e = sym (ap key_or e)
    by true (Err NoEquals) e = absurd cc
    by true (Err NoName) e = absurd cc

-- of two values of a key the later one stays
pub property_twice : (keeps : Keeps) (properties : List (List ℕ × List ℕ)) (last next : Last) → next.key ≡ last.key → put_property keeps (put_property keeps properties last) next ≡ put_property keeps properties next
property_twice keeps properties last next same = by (keeps.key next.key) (keeps.key last.key) (ap keeps.key same)
  where
    by : (b d : Bool) → b ≡ d → let now = cond d (put properties last.key last.value) properties in cond b (put now next.key next.value) now ≡ cond b (put properties next.key next.value) properties
    by true true is = ap (λ (key : List ℕ). put (put properties key last.value) next.key next.value) (sym same) ∙ put_twice properties next.key last.value next.value
    by false false is = refl
    by true false is = absurd cc
    by false true is = absurd cc
