-- A source of bytes in memory.
use Rattle.std.specs.Prelude.{ℕ, List}
use Rattle.smithy_core.specs.Calls.{Tally}

-- the bytes that a source has left, and its calls
pub record SourceState : Type 0 where
  pub left : List ℕ
  pub tally : Tally
