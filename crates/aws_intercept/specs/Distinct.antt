-- Lists without repetitions.
use Rattle.std.specs.Prelude.{Bool, not, List, [], ◌∷◌, ◌++◌, filter, if◌then◌else◌}
use Rattle.std.specs.List.{list_any}

-- the elements in order, each one left out that equals an earlier one
abbrev pub distinct : {X : Type 0} → (X → X → Bool) → List X → List X
distinct same [] = []
distinct same (x ∷ xs) = x ∷ filter (λ y. not (same x y)) (distinct same xs)

-- the list with an element that isn't there after it
abbrev pub with_new : {X : Type 0} → (X → X → Bool) → List X → X → List X
with_new same xs x = if list_any (λ y. same y x) xs then xs else xs ++ x ∷ []
