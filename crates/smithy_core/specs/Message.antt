-- What contracts see of a message.
use Rattle.std.specs.Prelude.{ℕ, List, ◌++◌, codes}
use Rattle.std.specs.Fmt.{decimal}
use Rattle.smithy_core.specs.Header.{Header}

-- headers in order, and a payload
pub record Parts : Type 0 where
  pub headers : List Header
  pub payload : List ℕ

-- how a message shows itself: so many headers, and so many bytes of payload
abbrev pub message_sizes : ℕ → ℕ → List ℕ
message_sizes headers payload = codes "Message(" ++ (decimal headers ++ (codes " headers, " ++ (decimal payload ++ codes " bytes)")))
