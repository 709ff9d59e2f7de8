-- Copies, place by place.
use Rattle.std.proofs.Common.{◌≡◌, ℕ, Bool, ◌&&◌, List, [], ◌∷◌, map, String, Global, string_bytes, bytes_eq, refl, ap, ap₂}
use Rattle.std.specs.Cmp.Lexicographic.{pointwise}
use Rattle.std.specs.List.{AllZip}
use Rattle.env_config.specs.Sections as sections
use Rattle.env_config.specs.Texts.{CopiedUnder, Named, named_as, same_values}
use Rattle.env_config.specs.Section.{IsSameSection, section_of}
use Rattle.env_config.specs.SectionProperties.{property_values}
use Rattle.env_config.specs.declared.section.Section.{Section}

-- what a function sees of copies, where it sees no difference
pub map_alike : {A B : Type 0} (R : A → A → Type 0) (f : A → B) → ((x y : A) → R x y → f y ≡ f x) → (xs ys : List A) → AllZip R xs ys → map f ys ≡ map f xs
map_alike R f same [] [] all = refl
map_alike R f same [] (y ∷ ys) all = absurd all
map_alike R f same (x ∷ xs) [] all = absurd all
map_alike {A} {B} R f same (x ∷ xs) (y ∷ ys) all = ap₂ (λ (b : B) (bs : List B). b ∷ bs) (same x y all.0) (map_alike R f same xs ys all.1)

-- copies, as a function sees them
pub zip_seen : {A B : Type 0} (R : A → A → Type 0) (S : B → B → Type 0) (f : A → B) → ((x y : A) → R x y → S (f x) (f y)) → (xs ys : List A) → AllZip R xs ys → AllZip S (map f xs) (map f ys)
zip_seen R S f same [] [] all = all
zip_seen R S f same [] (y ∷ ys) all = absurd all
zip_seen R S f same (x ∷ xs) [] all = absurd all
zip_seen R S f same (x ∷ xs) (y ∷ ys) all = (same x y all.0, zip_seen R S f same xs ys all.1)

-- a test of entries, and of the entries as their names are seen
pub same_seen : {X : Type 0} (same : X → X → Bool) (es ds : List (String Global × X))
    → pointwise (λ e d. bytes_eq (string_bytes e.0) (string_bytes d.0) && same e.1 d.1) es ds ≡ same_values same (map (λ e. (string_bytes e.0, e.1)) es) (map (λ d. (string_bytes d.0, d.1)) ds)
same_seen same [] [] = refl
same_seen same [] (d ∷ ds) = refl
same_seen same (e ∷ es) [] = refl
same_seen same (e ∷ es) (d ∷ ds) = ap (λ (b : Bool). (bytes_eq (string_bytes e.0) (string_bytes d.0) && same e.1 d.1) && b) (same_seen same es ds)

-- values under their names, as a function sees them that sees no difference of copies
pub named_alike : {X Y : Type 0} (R : X → X → Type 0) (f : X → Y) → ((x y : X) → R x y → f y ≡ f x) → (named copy : Named X) → copy.names ≡ named.names → AllZip (CopiedUnder R) named.values copy.values → named_as f copy ≡ named_as f named
named_alike {X} {Y} R f same named copy names values =
    let make : List (List ℕ) → List (List ℕ × Y) → Named Y = λ names values. record { names = names; values = values } in
    ap₂ make names (map_alike (CopiedUnder R) (λ (e : List ℕ × X). (e.0, f e.1)) (λ x y at. ap₂ (λ (name : List ℕ) (value : Y). (name, value)) at.0 (same x.1 y.1 at.1)) named.values copy.values values)

make_section : List ℕ → List (List ℕ × List ℕ) → sections.Section
make_section name properties = record { name = name; properties = properties }

pub section_alike : (held copy : Section) → IsSameSection held copy → section_of copy ≡ section_of held
unfolding make_section
section_alike held copy same = ap₂ make_section same.0 (ap property_values same.1)
