-- How binary data shows itself.
use Rattle.std.specs.Prelude.{ℕ, List, ◌++◌, codes}
use Rattle.std.specs.Fmt.{decimal}

-- a name, and in round brackets so many bytes
abbrev pub byte_count : List ℕ → ℕ → List ℕ
byte_count name count = name ++ (codes "(" ++ (decimal count ++ codes " bytes)"))
