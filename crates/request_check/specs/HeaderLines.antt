-- Values of a header in a canonical text.
use Rattle.std.specs.Prelude.{ℕ, Bool, true, false, List, [], ◌∷◌, ◌++◌}
use Rattle.sigv4.specs.CanonicalHeaders.{comma}

-- what stands before a value: `,`, unless it is the first
abbrev pub before_listed : Bool → List ℕ
before_listed true = []
before_listed false = comma ∷ []

-- the values to come, each behind `,` but the first of all
abbrev pub values_to_come : Bool → List (List ℕ) → List ℕ
values_to_come is_first [] = []
values_to_come is_first (value ∷ values) = before_listed is_first ++ value ++ values_to_come false values
