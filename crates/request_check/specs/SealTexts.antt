-- What the texts of a seal may be.
use Rattle.std.specs.Prelude.{ℕ, ◌==◌, Bool, List}
use Rattle.std.specs.List.{list_any}
use Rattle.smithy_core.specs.Text.{space}

-- the text holds a space
unfoldable pub has_space : List ℕ → Bool
has_space text = list_any (λ b. b == space) text
