-- What the reader of the words answers.
use Rattle.std.specs.Prelude.{◌≡◌, ℕ, Result, Ok, Err}
use Rattle.job_text.specs.declared.words.WordsFault.{WordsFault}
use Rattle.job_text.specs.declared.words.WordsFault.TheVariants.{BadWord, NoMemory}
use Rattle.signed_stream.specs.ProfileOptions.{profile_wanted}
use Rattle.operation_program.specs.Running.{OperationWanted}
use Rattle.operation_program.specs.declared.words.OperationWords.{OperationWords}

-- what the words ask for
abbrev pub operation_wanted : OperationWords → OperationWanted
operation_wanted words = record { name = words.name.now; at = words.at; profile = profile_wanted words.profile }

-- this is what the words ask for, or the one at this place is bad; or memory ran out
abbrev pub ReadsOperationWords : Result OperationWanted ℕ → Result OperationWords WordsFault → Type 0
ReadsOperationWords read (Ok words) = read ≡ Ok (operation_wanted words)
ReadsOperationWords read (Err (BadWord place)) = read ≡ Err place
ReadsOperationWords read (Err NoMemory) = Unit {0}
