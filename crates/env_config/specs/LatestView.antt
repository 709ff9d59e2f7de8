-- Places and values, as the code keeps them.
use Rattle.std.specs.Prelude.{ℕ, List, map, String, string_bytes}
use Rattle.std.specs.declared.alloc.Global.{Global}

-- the texts of the keys and of the values
abbrev pub placed_of : List (String Global × (ℕ × String Global)) → List (List ℕ × (ℕ × List ℕ))
placed_of entries = map (λ e. (string_bytes e.0, (e.1.0, string_bytes e.1.1))) entries
