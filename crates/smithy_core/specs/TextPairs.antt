-- Lists of pairs: headers, variables, files.
use Rattle.std.specs.Prelude.{◌≡◌, ℕ, zero, suc, List, [], ◌∷◌, ◌++◌, map, filter, not, length, codes, fold, Option, Some, None, unwrap_or, String, string_bytes, bytes_eq, if◌then◌else◌}
use Rattle.std.specs.Borrow.{Bor}
use Rattle.std.specs.Fmt.{debug_str, decimal}
use Rattle.std.specs.List.{AllByRecursion, flat_map}
use Rattle.std.specs.Option.{option_or}
use Rattle.std.specs.Char.{to_ascii_lowercase}
use Rattle.std.specs.declared.alloc.Global.{Global}

-- the texts of a pair
abbrev pub text_pair : String Global × String Global → List ℕ × List ℕ
text_pair pair = (string_bytes pair.0, string_bytes pair.1)

-- the texts of pairs
abbrev pub text_pairs : List (String Global × String Global) → List (List ℕ × List ℕ)
text_pairs pairs = map text_pair pairs

-- a text with its ASCII letters in lower case
abbrev pub lower : List ℕ → List ℕ
lower text = map to_ascii_lowercase text

-- each name has its ASCII letters in lower case
abbrev pub AreLower : List (List ℕ × List ℕ) → Type 0
AreLower pairs = AllByRecursion (λ pair. lower pair.0 ≡ pair.0) pairs

-- a pair of borrowed texts, its name in lower case
abbrev pub lower_name : Bor (List ℕ) × Bor (List ℕ) → List ℕ × List ℕ
lower_name pair = (lower pair.0.now, pair.1.now)

-- the value, where the pair has this name
abbrev pub value_if : List ℕ × List ℕ → List ℕ → Option (List ℕ)
value_if pair name = if bytes_eq pair.0 name then Some pair.1 else None

-- the value of the first pair that has the name
abbrev pub first_value : List (List ℕ × List ℕ) → List ℕ → Option (List ℕ)
first_value [] name = None
first_value (pair ∷ pairs) name = option_or (value_if pair name) (first_value pairs name)

-- the values of the pairs that have the name
abbrev pub named_values : List (List ℕ × List ℕ) → List ℕ → List (List ℕ)
named_values [] name = []
named_values (pair ∷ pairs) name = if bytes_eq pair.0 name then pair.1 ∷ named_values pairs name else named_values pairs name

-- the value of the last pair that has the name
abbrev pub last_value : List (List ℕ × List ℕ) → List ℕ → Option (List ℕ)
last_value [] name = None
last_value (pair ∷ pairs) name = option_or (last_value pairs name) (value_if pair name)

-- the pairs that don't have the name
abbrev pub without : List (List ℕ × List ℕ) → List ℕ → List (List ℕ × List ℕ)
without pairs name = filter (λ pair. not (bytes_eq pair.0 name)) pairs

-- the pair at the first place of its name, with no other of that name, or else at the end
abbrev pub inserted : List (List ℕ × List ℕ) → List ℕ → List ℕ → List (List ℕ × List ℕ)
inserted [] name value = (name, value) ∷ []
inserted (pair ∷ pairs) name value =
    if bytes_eq pair.0 name then (name, value) ∷ without pairs name else pair ∷ inserted pairs name value

-- the pairs after inserting these in order, each under its name in lower case
abbrev pub all_inserted : List (List ℕ × List ℕ) → List (List ℕ × List ℕ) → List (List ℕ × List ℕ)
all_inserted pairs more = fold (λ all pair. inserted all (lower pair.0) pair.1) pairs more

-- the first place of the name, or the number of pairs
abbrev pub first_place : List (List ℕ × List ℕ) → List ℕ → ℕ
first_place [] name = zero
first_place (pair ∷ pairs) name = if bytes_eq pair.0 name then zero else suc (first_place pairs name)

-- a name in quotes, or how many bytes it has where not all of them are ASCII
abbrev pub shown_name : List ℕ → List ℕ
shown_name name = unwrap_or (debug_str name) (decimal (length name) ++ codes " bytes")

-- the name of a pair, and how long its value is
abbrev pub value_size : List ℕ × List ℕ → List ℕ
value_size pair = shown_name pair.0 ++ (codes ": " ++ decimal (length pair.1))

-- the names of pairs and how long the values are, with commas between them
abbrev pub value_sizes : List (List ℕ × List ℕ) → List ℕ
value_sizes [] = codes "{}"
value_sizes (pair ∷ pairs) = codes "{" ++ (value_size pair ++ (flat_map (λ other. codes ", " ++ value_size other) pairs ++ codes "}"))
