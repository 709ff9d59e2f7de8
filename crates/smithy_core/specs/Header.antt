-- What contracts see of a header.
use Rattle.std.specs.Prelude.{ℕ, List}
use Rattle.smithy_core.specs.declared.header.HeaderValue.{HeaderValue}

-- a name and a value
pub record Header : Type 0 where
  pub name : List ℕ
  pub value : HeaderValue
