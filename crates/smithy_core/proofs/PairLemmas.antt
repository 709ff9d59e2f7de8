-- Walks over lists of pairs.
use Rattle.std.proofs.Common.{◌≡◌, ℕ, zero, suc, ◌<◌, ◌≤◌, ◌+◌, Bool, true, false, cond, not, List, [], ◌∷◌, length, map, drop, get_or, Option, Some, None, refl, sym, ap, ◌∙◌, add-one, arith}
use Rattle.std.specs.Prelude.{bytes_eq, filter}
use Rattle.std.specs.List.{insert}
use Rattle.std.specs.Option.{option_or}
use Rattle.std.proofs.Math.Seq.{drop-cons}
use Rattle.smithy_core.specs.TextPairs.{last_value, value_if, without, inserted, first_place}

pub option_or_assoc : {A : Type 0} (a b c : Option A) → option_or (option_or a b) c ≡ option_or a (option_or b c)
option_or_assoc None b c = refl
option_or_assoc (Some x) b c = refl

module _ {X : Type 0} (pair_of : X → List ℕ × List ℕ) where
  -- the pair in front is used up: what the pairs to come have, or else what was found
  pub last_value_more : (items : List X) (i : ℕ) (item : X) (name : List ℕ) (all found next : Option (List ℕ)) → i < length items → item ≡ get_or items i item
      → all ≡ option_or (last_value (map pair_of (drop i items)) name) found
      → next ≡ option_or (value_if (pair_of item) name) found
      → all ≡ option_or (last_value (map pair_of (drop (i + 1) items)) name) next
  last_value_more items i item name all found next within is before step =
      let front : drop i items ≡ item ∷ drop (i + 1) items = drop-cons items i item within ∙ rw (← is, add-one) refl in
      before ∙ ap (λ (xs : List X). option_or (last_value (map pair_of xs) name) found) front
      ∙ option_or_assoc (last_value (map pair_of (drop (i + 1) items)) name) (value_if (pair_of item) name) found
      ∙ ap (λ (f : Option (List ℕ)). option_or (last_value (map pair_of (drop (i + 1) items)) name) f) (sym step)

module _ {X : Type 0} (pair_of : X → List ℕ × List ℕ) (name : List ℕ) where
  -- the items of other names
  abbrev pub others : List X → List X
  others items = filter (λ item. not (bytes_eq (pair_of item).0 name)) items

  others_are : (items : List X) → map pair_of (others items) ≡ without (map pair_of items) name
  others_are [] = refl
  others_are (item ∷ items) =
      elim (bytes_eq (pair_of item).0 name) as (λ (b : Bool). map pair_of (cond (not b) (item ∷ others items) (others items)) ≡ cond (not b) (pair_of item ∷ without (map pair_of items) name) (without (map pair_of items) name)) [
        | true ↦ others_are items
        | false ↦ ap (λ xs. pair_of item ∷ xs) (others_are items)
      ]

  -- the first place of the name lies in the items of other names
  pub place_within : (items : List X) → first_place (map pair_of items) name ≤ length (others items)
  place_within [] = omega arith
  place_within (item ∷ items) =
      elim (bytes_eq (pair_of item).0 name) as (λ (b : Bool). cond b zero (suc (first_place (map pair_of items) name)) ≤ length (cond (not b) (item ∷ others items) (others items))) [
        | true ↦ omega arith
        | false ↦ omega (arith, place_within items)
      ]

  -- an item put at the first place of its name, among the items of other names
  pub inserted_others : (items : List X) (new : X) (value : List ℕ) → pair_of new ≡ (name, value)
      → map pair_of (insert (others items) (first_place (map pair_of items) name) new) ≡ inserted (map pair_of items) name value
  inserted_others [] new value is = ap (λ (pair : List ℕ × List ℕ). pair ∷ []) is
  inserted_others (item ∷ items) new value is =
      elim (bytes_eq (pair_of item).0 name) as (λ (b : Bool).
      map pair_of (insert (cond (not b) (item ∷ others items) (others items)) (cond b zero (suc (first_place (map pair_of items) name))) new)
      ≡ cond b ((name, value) ∷ without (map pair_of items) name) (pair_of item ∷ inserted (map pair_of items) name value)) [
        | true ↦ rw is (ap (λ xs. (name, value) ∷ xs) (others_are items))
        | false ↦ ap (λ xs. pair_of item ∷ xs) (inserted_others items new value is)
      ]
