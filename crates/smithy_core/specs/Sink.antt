-- A sink of bytes in memory, and the texts of its errors.
use Rattle.std.specs.Prelude.{◌≡◌, ℕ, List, ◌++◌, length, codes, Result, Ok, Err}
use Rattle.smithy_core.specs.Calls.{Tally}
use Rattle.smithy_core.specs.declared.outside.sink.SinkError.{SinkError}
use Rattle.smithy_core.specs.declared.outside.sink.SinkError.TheVariants.{Failed, NoMemory}

-- the bytes that a sink holds, and its calls
pub record SinkState : Type 0 where
  pub held : List ℕ
  pub tally : Tally

-- the piece was taken whole, or nothing of it was
abbrev pub TakesWhole : List ℕ → List ℕ → List ℕ → Result ℕ SinkError → Type 0
TakesWhole piece before now (Ok n) = (n ≡ length piece) × (now ≡ before ++ piece)
TakesWhole piece before now (Err e) = now ≡ before

-- what an error of a sink prints
abbrev pub sink_error_text : SinkError → List ℕ
sink_error_text Failed = codes "the sink failed"
sink_error_text NoMemory = codes "no memory"
