-- What contracts see of text that was made and isn't answered yet.
use Rattle.std.specs.Prelude.{ℕ, ◌<◌, List, length}
use Rattle.std.specs.List.{AllByRecursion, flat_map}

-- the text of the pieces
abbrev pub joined : List (List ℕ) → List ℕ
joined pieces = flat_map (λ piece. piece) pieces

-- no piece is empty
abbrev pub AreFilled : List (List ℕ) → Type 0
AreFilled pieces = AllByRecursion (λ piece. 0 < length piece) pieces
