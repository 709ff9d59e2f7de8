-- What the loops of `awsign events` say of the faults that the output counted.
use Rattle.std.proofs.Common.{◌≡◌, ℕ}
use Rattle.std.specs.Prelude.{IsErrOf, Result, Ok, Err}
use Rattle.smithy_core.specs.Outside.{CountsFault}
use Rattle.awsign_run.proofs.CountLemmas.{counts_nothing, counts_on}

-- an answer that is no fault counted none
pub steady_ok : {T E : Type 0} (result : Result T E) (x : T) (output : E) (before now : ℕ) → result ≡ Ok x → CountsFault (IsErrOf result output) before now → now ≡ before
steady_ok result x output before now given counts = counts.stayed (λ is. let e : Ok x ≡ Err output = rw given at is in cc)

-- calls before that counted none
pub counts_behind : (failed : Type 0) (start before now : ℕ) → before ≡ start → CountsFault failed before now → CountsFault failed start now
counts_behind failed start before now same counts = rw same at counts

-- a fault that is handed on, behind calls that counted none
pub counts_on_behind : {T U E : Type 0} (a : Result T E) (b : Result U E) (fault output : E) (start before now : ℕ) → before ≡ start → a ≡ Err fault → b ≡ Err fault
    → CountsFault (IsErrOf a output) before now → CountsFault (IsErrOf b output) start now
counts_on_behind a b fault output start before now same first second counts =
    counts_behind (IsErrOf b output) start before now same (counts_on a b fault output before now first second counts)

-- nothing was counted over all calls, and the answer is no fault of the output
pub counts_none : (failed : Type 0) (before now : ℕ) → now ≡ before → (failed → ⊥) → CountsFault failed before now
counts_none failed before now same other = rw same (counts_nothing failed before other)
