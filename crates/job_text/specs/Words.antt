-- The words of a command line, one by one.
use Rattle.std.specs.Prelude.{◌≡◌, ℕ, Option, Some, None, Result, Ok, Err}
use Rattle.job_text.specs.declared.words.WordsFault.{WordsFault}
use Rattle.job_text.specs.declared.words.WordsFault.TheVariants.{BadWord, NoMemory}

-- the word at a place is taken as the step says, or is bad; or memory ran out
abbrev pub TakesWord : {G : Type 0} → Option G → ℕ → G → Result (Unit {0}) WordsFault → Type 0
TakesWord step place now (Ok _) = step ≡ Some now
TakesWord step place now (Err (BadWord bad)) = (step ≡ None) × (bad ≡ place)
TakesWord step place now (Err NoMemory) = Unit {0}

-- the words were taken, and this is the place behind them; or the word at this place is bad; or memory ran out
abbrev pub TakesWords : {G : Type 0} → Result (G × ℕ) ℕ → G → Result ℕ WordsFault → Type 0
TakesWords taken now (Ok place) = taken ≡ Ok (now, place)
TakesWords taken now (Err (BadWord place)) = taken ≡ Err place
TakesWords taken now (Err NoMemory) = Unit {0}
