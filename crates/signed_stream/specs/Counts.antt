-- What the steps of a run promise of a count of faults.
use Rattle.std.specs.Prelude.{◌≡◌, ℕ, Result, Ok, Err}
use Rattle.smithy_core.specs.Outside.{CountsFault}
use Rattle.signed_stream.specs.Status.{Ending, ending_of}
use Rattle.signed_stream.specs.declared.status.Status.{Status}

-- a count over a step of a run, which stays where the run goes on, and else as for how it ended
abbrev pub CountsStep : {T : Type 0} → Ending → Result T Status → ℕ → ℕ → Type 0
CountsStep end (Ok _) before now = now ≡ before
CountsStep end (Err status) before now = CountsFault (ending_of status ≡ end) before now
