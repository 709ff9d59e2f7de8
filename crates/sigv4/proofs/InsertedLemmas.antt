-- The values of a name after an insertion.
use Rattle.std.proofs.Common.{◌≡◌, ℕ, Bool, true, false, cond, not, List, [], ◌∷◌, refl, sym, ap, ◌∙◌}
use Rattle.std.specs.Prelude.{bytes_eq}
use Rattle.std.proofs.lemmas.Slice.Eq.{bytes_eq-Decides}
use Rattle.smithy_core.specs.TextPairs.{inserted, named_values, without}
use Rattle.sigv4.specs.Query.{Pair}

pub same_name : (a b : List ℕ) → bytes_eq a b ≡ true → a ≡ b
same_name a b e = (bytes_eq-Decides a b).0 e

pub itself : (name : List ℕ) → bytes_eq name name ≡ true
itself name = (bytes_eq-Decides name name).1 refl

-- the values with this one in front, where it counts
abbrev pub values_if : Bool → List ℕ → List (List ℕ) → List (List ℕ)
values_if counts value values = cond counts (value ∷ values) values

pub named-without_same : (name : List ℕ) (pairs : List Pair) → named_values (without pairs name) name ≡ []
named-without_same name [] = refl
named-without_same name (pair ∷ pairs) = by_test (bytes_eq pair.0 name) refl (named-without_same name pairs)
  where
    by_test : (b : Bool) → bytes_eq pair.0 name ≡ b → named_values (without pairs name) name ≡ [] → named_values (cond (not b) (pair ∷ without pairs name) (without pairs name)) name ≡ []
    by_test true e again = again
    by_test false e again = ap (λ b. values_if b pair.1 (named_values (without pairs name) name)) e ∙ again

pub named-without_other : (name other : List ℕ) → bytes_eq name other ≡ false → (pairs : List Pair) → named_values (without pairs name) other ≡ named_values pairs other
named-without_other name other differ [] = refl
named-without_other name other differ (pair ∷ pairs) = by_test (bytes_eq pair.0 name) refl (named-without_other name other differ pairs)
  where
    by_test : (b : Bool) → bytes_eq pair.0 name ≡ b → named_values (without pairs name) other ≡ named_values pairs other
        → named_values (cond (not b) (pair ∷ without pairs name) (without pairs name)) other ≡ values_if (bytes_eq pair.0 other) pair.1 (named_values pairs other)
    by_test true e again = again ∙ ap (λ b. values_if b pair.1 (named_values pairs other)) (sym (ap (λ n. bytes_eq n other) (same_name pair.0 name e) ∙ differ))
    by_test false e again = ap (values_if (bytes_eq pair.0 other) pair.1) again

-- of the name that is inserted the one value is there
pub named-inserted_same : (pairs : List Pair) (name value : List ℕ) → named_values (inserted pairs name value) name ≡ value ∷ []
named-inserted_same [] name value = ap (λ b. values_if b value []) (itself name)
named-inserted_same (pair ∷ pairs) name value = by_test (bytes_eq pair.0 name) refl (named-inserted_same pairs name value)
  where
    by_test : (b : Bool) → bytes_eq pair.0 name ≡ b → named_values (inserted pairs name value) name ≡ value ∷ []
        → named_values (cond b ((name, value) ∷ without pairs name) (pair ∷ inserted pairs name value)) name ≡ value ∷ []
    by_test true e again = ap (λ b. values_if b value (named_values (without pairs name) name)) (itself name) ∙ ap (λ rest. value ∷ rest) (named-without_same name pairs)
    by_test false e again = ap (λ b. values_if b pair.1 (named_values (inserted pairs name value) name)) e ∙ again

-- and of another name those that were there
pub named-inserted_other : (name value other : List ℕ) → bytes_eq name other ≡ false → (pairs : List Pair) → named_values (inserted pairs name value) other ≡ named_values pairs other
named-inserted_other name value other differ [] = ap (λ b. values_if b value []) differ
named-inserted_other name value other differ (pair ∷ pairs) = by_test (bytes_eq pair.0 name) refl (named-inserted_other name value other differ pairs)
  where
    by_test : (b : Bool) → bytes_eq pair.0 name ≡ b → named_values (inserted pairs name value) other ≡ named_values pairs other
        → named_values (cond b ((name, value) ∷ without pairs name) (pair ∷ inserted pairs name value)) other ≡ values_if (bytes_eq pair.0 other) pair.1 (named_values pairs other)
    by_test true e again =
        ap (λ b. values_if b value (named_values (without pairs name) other)) differ ∙ named-without_other name other differ pairs
        ∙ ap (λ b. values_if b pair.1 (named_values pairs other)) (sym (ap (λ n. bytes_eq n other) (same_name pair.0 name e) ∙ differ))
    by_test false e again = ap (values_if (bytes_eq pair.0 other) pair.1) again
