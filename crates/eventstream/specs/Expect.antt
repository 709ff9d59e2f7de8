-- The value of a header that has to be of one kind.
use Rattle.std.specs.Prelude.{ℕ, List, Option, Result}
use Rattle.std.specs.Option.{ok_or}
use Rattle.smithy_core.specs.Header.{Header}
use Rattle.smithy_core.specs.declared.header.HeaderValue.{HeaderValue}
use Rattle.eventstream.specs.Texts.{unexpected_text}

-- the part of a header's value that is of the kind of this name, or why there is none
abbrev pub expected : {A : Type 0} → (HeaderValue → Option A) → List ℕ → Header → Result A (List ℕ)
expected part kind h = ok_or (part h.value) (unexpected_text h.name kind)
