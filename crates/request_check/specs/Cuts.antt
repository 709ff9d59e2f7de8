-- Texts that are cut at a mark.
use Rattle.std.specs.Prelude.{◌≡◌, ℕ, ◌≤◌, List, ◌++◌, length, Option, Some, None}
use Rattle.std.specs.Borrow.{Bor}

-- the text before and after the last place of a mark, or that it has none
abbrev pub CutsLast : List ℕ → List ℕ → Option (Bor (List ℕ) × Bor (List ℕ)) → Type 0
CutsLast mark text None = (front back : List ℕ) → text ≡ front ++ (mark ++ back) → ⊥
CutsLast mark text (Some parts) =
    (text ≡ parts.0.now ++ (mark ++ parts.1.now)) × ((front back : List ℕ) → text ≡ front ++ (mark ++ back) → length front ≤ length parts.0.now)

-- what stands before an end, or that the text doesn't have this end
abbrev pub CutsEnd : List ℕ → List ℕ → Option (Bor (List ℕ)) → Type 0
CutsEnd end text None = (front : List ℕ) → text ≡ front ++ end → ⊥
CutsEnd end text (Some front) = text ≡ front.now ++ end
