-- What contracts see of the headers that are signed.
use Rattle.std.specs.Prelude.{◌≡◌, ℕ, codes, List, [], ◌∷◌, ◌++◌, map, bytes_eq, Option, Some, None, if◌then◌else◌}
use Rattle.std.specs.Borrow.{Bor}
use Rattle.smithy_core.specs.TextPairs.{named_values}
use Rattle.smithy_core.specs.Text.{line, line_feed}
use Rattle.sigv4.specs.Canonical.{is_signed, joined_values, signed_names}
use Rattle.sigv4.specs.Query.{Pair}
use Rattle.sigv4.specs.Settings.{Settings}
use Rattle.sigv4.specs.Trim.{trim_all}
use Rattle.sigv4.specs.declared.canonical_headers.SignedValue.{SignedValue}
use Rattle.sigv4.specs.declared.canonical_headers.SignedValue.TheVariants.{Given, Added}

-- `,`
abbrev pub comma : ℕ
comma = 44

-- the value as it is signed: a given one trimmed
abbrev pub signed_value_text : SignedValue → List ℕ
signed_value_text (Given value) = trim_all value.now
signed_value_text (Added value) = value.now

-- a name and a value, as texts
abbrev pub header_pair : Bor (List ℕ) × SignedValue → Pair
header_pair header = (header.0.now, signed_value_text header.1)

-- names and values, as texts
abbrev pub header_pairs : List (Bor (List ℕ) × SignedValue) → List Pair
header_pairs headers = map header_pair headers

-- `,` and the value of the first pair, where that has the name
abbrev pub value_behind : List ℕ → List Pair → List ℕ
value_behind name [] = []
value_behind name (pair ∷ pairs) = if bytes_eq name pair.0 then comma ∷ pair.1 else []

-- the pairs after the first, where that has the name, and else all
abbrev pub pairs_behind : List ℕ → List Pair → List Pair
pairs_behind name [] = []
pairs_behind name (pair ∷ pairs) = if bytes_eq name pair.0 then pairs else pair ∷ pairs

-- neighbours of one name made one pair, their values with `,` between
abbrev pub gathered : List Pair → List Pair
gathered [] = []
gathered (pair ∷ pairs) = (pair.0, pair.1 ++ value_behind pair.0 (gathered pairs)) ∷ pairs_behind pair.0 (gathered pairs)

-- the headers as texts, with the values of each name joined
abbrev pub header_texts : List (Bor (List ℕ) × SignedValue) → List Pair
header_texts headers = gathered (header_pairs headers)

-- the values of a name in order, where it is signed
abbrev pub signed_values : Settings → List Pair → List ℕ → List (List ℕ)
signed_values settings pairs name = if is_signed settings name then named_values pairs name else []

-- there are the values of each signed name of these headers, in order
abbrev pub HoldsHeaders : Settings → List Pair → List (Bor (List ℕ) × SignedValue) → Type 0
HoldsHeaders settings pairs headers = (name : List ℕ) → named_values (header_pairs headers) name ≡ signed_values settings pairs name

-- each signed name of these headers in order, with its values joined
abbrev pub ordered_headers : Settings → List Pair → List Pair
ordered_headers settings pairs = map (λ name. (name, joined_values pairs name)) (signed_names settings pairs)

-- `name:value`, as a line
abbrev pub pair_line : Pair → List ℕ
pair_line header = line (header.0 ++ codes ":" ++ header.1)

-- a name behind the last one: nothing where it is the same
abbrev pub next_name : Option (List ℕ) → List ℕ → List ℕ
next_name None name = name
next_name (Some last) name = if bytes_eq last name then [] else codes ";" ++ name

-- what stands before the value of a name, behind the value of the last name
abbrev pub before_value : Option (List ℕ) → List ℕ → List ℕ
before_value None name = name ++ codes ":"
before_value (Some last) name = if bytes_eq last name then codes "," else line_feed ∷ name ++ codes ":"

-- what stands behind the last value
abbrev pub after_values : Option (List ℕ) → List ℕ
after_values None = []
after_values (Some last) = line_feed ∷ []
