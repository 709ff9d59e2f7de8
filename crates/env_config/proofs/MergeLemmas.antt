-- Sections that are filled and put back, and the pieces of values.
use Rattle.std.proofs.Common.{◌≡◌, ◌≢◌, ℕ, suc, ◌<◌, Bool, cond, eqb, List, [], ◌∷◌, length, get_or, refl, ap, ◌∙◌, arith, ne_eqb}
use Rattle.std.specs.Prelude.{Option, option_map}
use Rattle.std.specs.List.{slice_split}
use Rattle.std.specs.List as std_list
use Rattle.env_config.specs.Sections.{Section, merged_into, put_identifiers, section_properties}
use Rattle.env_config.specs.Texts.{Named, named_as, put, put_named, text_cmp, value_under}
use Rattle.env_config.specs.SectionProperties.{property_values}
use Rattle.env_config.proofs.TextsLemmas.{entries_put, seen_at, seen_put}

pub merged : {X : Type 0} (f : X → Section) (old between now : Named X) (name : List ℕ) (pairs properties : List (List ℕ × List ℕ)) (filled : X) (had : Option X)
    → ((value : X) → put_named between name value ≡ put_named old name value) → had ≡ value_under old.values name → properties ≡ put_identifiers (section_properties (option_map f had)) pairs
    → f filled ≡ record { name = name; properties = properties } → now ≡ put_named between name filled → named_as f now ≡ merged_into (named_as f old) name pairs
merged f old between now name pairs properties filled had later had_is properties_is filled_is now_is =
    let section : List (List ℕ × List ℕ) → Section = λ pairs. record { name = name; properties = pairs } in
    ap (named_as f) (now_is ∙ later filled)
    ∙ seen_put f old name filled
    ∙ ap (put_named (named_as f old) name) (filled_is ∙ ap section (properties_is ∙ ap (λ (o : Option Section). put_identifiers (section_properties o) pairs) (ap (option_map f) had_is ∙ seen_at f old name)))

-- the value of each key, after one was put under its own key
pub values_put : (contents : List (List ℕ × (List ℕ × List ℕ))) (key value : List ℕ) → property_values (put contents key (key, value)) ≡ put (property_values contents) key value
values_put contents key value = entries_put text_cmp text_cmp (λ (k : List ℕ). k) (λ (c : List ℕ × List ℕ). c.1) (λ _ _. refl) contents key (key, value)

-- ## Pieces

-- a value without an LF is one piece
pub one_piece : (text : List ℕ) → ((i : ℕ) → i < length text → get_or text i 0 ≢ 10) → slice_split (λ b. eqb b 10) text ≡ text ∷ []
one_piece [] none = refl
one_piece (b ∷ text) none =
    let others = slice_split (λ b. eqb b 10) text in
    ap (λ (v : Bool). cond v ([] ∷ others) (std_list.onto_first b others)) (ne_eqb b 10 (none 0 (omega arith)))
    ∙ ap (std_list.onto_first b) (one_piece text (λ i within. none (suc i) (omega arith)))
