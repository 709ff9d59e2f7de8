-- The texts that a program prints without a run.
use Rattle.std.specs.Prelude.{ℕ, List, [], ◌∷◌, codes, bytes_eq, if◌then◌else◌, Option, Some, None}

-- the help or the version, where the word asks for it
abbrev pub text_of_word : List ℕ → List ℕ → List ℕ → Option (List ℕ)
text_of_word help version word = if bytes_eq word (codes "--help") then Some help else if bytes_eq word (codes "--version") then Some version else None

-- the help or the version, where a single word asks for it
abbrev pub text_of_words : List ℕ → List ℕ → List (List ℕ) → Option (List ℕ)
text_of_words help version (word ∷ []) = text_of_word help version word
text_of_words help version words = None
