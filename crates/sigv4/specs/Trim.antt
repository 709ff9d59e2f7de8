-- Values of headers in a canonical request.
use Rattle.std.specs.Prelude.{ℕ, Bool, not, ◌==◌, List, [], ◌∷◌, length, filter, if◌then◌else◌}
use Rattle.std.specs.List.{join_with_byte, slice_split}
use Rattle.smithy_core.specs.Text.{space}

-- a piece that isn't empty
abbrev pub is_word : List ℕ → Bool
is_word piece = not (length piece == 0)

-- the pieces between the spaces that aren't empty
abbrev pub value_words : List ℕ → List (List ℕ)
value_words text = filter is_word (slice_split (λ b. b == space) text)

-- what stands before a word: a space, unless it is the first
abbrev pub before_word : Bool → List ℕ
before_word is_first = if is_first then [] else space ∷ []

-- the spaces at the ends cut, and each run of spaces made one
unfoldable pub trim_all : List ℕ → List ℕ
trim_all text = join_with_byte space (value_words text)
