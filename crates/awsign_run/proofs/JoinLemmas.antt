-- Joined texts.
use Rattle.std.proofs.Common.{◌≡◌, ◌++◌, ◌∷◌, [], ℕ, List, flat_map, map, refl, ap}
use Rattle.std.specs.List.{join_by}

module _ {X : Type 0} (f : X → List ℕ) (sep : List ℕ) where
  behind_first : (xs : List X) → flat_map (λ (x : X). sep ++ f x) xs ≡ flat_map (λ (t : List ℕ). sep ++ t) (map f xs)
  behind_first [] = refl
  behind_first (x ∷ xs) = ap (λ (rest : List ℕ). (sep ++ f x) ++ rest) (behind_first xs)

  -- what is joined is the texts of the items
  pub joined_map : (xs : List X) → join_by f sep xs ≡ join_by (λ (t : List ℕ). t) sep (map f xs)
  joined_map [] = refl
  joined_map (x ∷ xs) = ap (λ (rest : List ℕ). f x ++ rest) (behind_first xs)
