-- How many bytes a chunk has.
use Rattle.std.specs.Prelude.{ℕ, zero, suc, ◌≤◌, List, Option, None, Some}
use Rattle.job_text.specs.Numbers.{natural_below}

-- the number, where it isn't 0
abbrev pub unless_zero : Option ℕ → Option ℕ
unless_zero None = None
unless_zero (Some zero) = None
unless_zero (Some (suc n)) = Some (suc n)

-- the size of a chunk: 1 to 67,108,864
abbrev pub IsSize : ℕ → Type 0
IsSize n = (1 ≤ n) × (n ≤ 67108864)

-- the size that a text spells: 1 to 67,108,864
unfoldable pub spelled_size : List ℕ → Option ℕ
spelled_size text = unless_zero (natural_below 67108865 text)
