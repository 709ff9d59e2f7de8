-- Texts of lines.
use Rattle.std.specs.Prelude.{ℕ, List, [], ◌∷◌, ◌++◌}

-- LF
abbrev pub line_feed : ℕ
line_feed = 10

-- a space
abbrev pub space : ℕ
space = 32

-- a tab
abbrev pub tab : ℕ
tab = 9

-- a line, ended by LF
abbrev pub line : List ℕ → List ℕ
line text = text ++ line_feed ∷ []
