use Rattle.std.proofs.Common.{ℕ, ◌<◌, ◌↔◌, IsTrue, get_or}
use Rattle.http_header.specs.Token.{is_value_byte}
use Rattle.smithy_core.proofs.header_grammar.is_header_value.Given as goal

-- each byte so far may stand in a value, or the flag says that one may not
abbrev pub invariant-loop-byte : goal.invariant-loop-byte
invariant-loop-byte l = IsTrue l.is_value ↔ ((k : ℕ) → k < l.byte-index → IsTrue (is_value_byte (get_or l.bytes k 0)))
