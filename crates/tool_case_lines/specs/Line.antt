-- What a line of cases is.
use Rattle.std.specs.Prelude.{◌≡◌, ◌≢◌, ◌==◌, ◌<◌, ◌++◌, ◌∷◌, ℕ, List, length, map, slice_index}
use Rattle.std.specs.List.{slice_split}
use Rattle.std.specs.Str.Lossy.{utf8_lossy}
use Rattle.percent_encoding.specs.Percent.{percent_decode}

-- the tab, which parts the words of a line
abbrev pub tab : ℕ
tab = 9

-- no byte of the text is a tab
abbrev pub HasNoTab : List ℕ → Type 0
HasNoTab text = (i : ℕ) → i < length text → slice_index text i ≢ tab

-- the last tab of a line parts its case from the wanted answer
pub record IsParted (line case wanted : List ℕ) : Type 0 where
  pub whole : line ≡ case ++ (tab ∷ wanted)
  pub last : HasNoTab wanted

-- a word with its escapes read, and U+FFFD for what is no UTF-8 then
abbrev pub read_word : List ℕ → List ℕ
read_word text = utf8_lossy (percent_decode text)

-- the words between the tabs, each with its escapes read
abbrev pub words : List ℕ → List (List ℕ)
words case = map read_word (slice_split (λ b. b == tab) case)
