-- What a run says of the faults that its output counted.
use Rattle.std.proofs.Common.{◌≡◌, ℕ, refl, arith}
use Rattle.std.specs.Prelude.{IsErrOf, Result, Err}
use Rattle.smithy_core.specs.Outside.{CountsFault}
use Rattle.smithy_core.specs.declared.outside.sink.SinkError.TheVariants as sink

-- ## Of any run

-- nothing was written
pub counts_nothing : (failed : Type 0) (count : ℕ) → (failed → ⊥) → CountsFault failed count count
counts_nothing failed count other = record { rose = λ is. absurd (other is); stayed = λ none. refl; grew = omega arith }

-- what another answer says of the same calls
pub counts_alike : (failed answered : Type 0) (before now : ℕ) → (answered → failed) → (failed → answered) → CountsFault failed before now → CountsFault answered before now
counts_alike failed answered before now back forth counts =
    record { rose = λ is. counts.rose (back is); stayed = λ other. counts.stayed (λ is. other (forth is)); grew = counts.grew }

-- an answer that is handed on
pub counts_on : {T U E : Type 0} (a : Result T E) (b : Result U E) (fault output : E) (before now : ℕ) → a ≡ Err fault → b ≡ Err fault → CountsFault (IsErrOf a output) before now
    → CountsFault (IsErrOf b output) before now
counts_on a b fault output before now first second =
    counts_alike (IsErrOf a output) (IsErrOf b output) before now (same b a fault output second first) (same a b fault output first second)
  where
    same : {T U E : Type 0} (a : Result T E) (b : Result U E) (fault output : E) → a ≡ Err fault → b ≡ Err fault → IsErrOf a output → IsErrOf b output
    same a b fault output first second is = rw second (let e : Err fault ≡ Err output = rw first at is in cc)

-- ## Of a text
