-- What is said of how much data is read, while it is.
use Rattle.std.specs.Prelude.{◌≡◌, ◌⊎◌, ℕ, zero, suc, ◌+◌, ◌-◌, ◌/◌, min, nat_lt, if◌then◌else◌, List, [], ◌∷◌, ◌++◌, codes, Option, Some, None, Result, Ok, Err}
use Rattle.std.specs.Fmt.{decimal}
use Rattle.smithy_core.specs.declared.outside.source.Failed.{Failed}
use Rattle.awsign_text.specs.Head.{carriage_return}
use Rattle.awsign_run.specs.Saying.{GainsSome}
use Rattle.awsign_run.specs.declared.progress.ProgressSource.{ProgressSource}

-- 64 MiB
abbrev pub progress_step : ℕ
progress_step = 67108864

-- how many whole steps stand before the last of so many bytes
abbrev pub steps_before : ℕ → ℕ
steps_before read = (read - 1) / progress_step

-- how many bytes are read with these, as far as a `u64` counts
abbrev pub read_with : ℕ → ℕ → ℕ
read_with read more = min (read + more) 18446744073709551615

-- how much is read, in MiB; it begins at the front of the terminal's line, and so covers what was said before
abbrev pub progress_text : ℕ → List ℕ
progress_text read = carriage_return ∷ (codes "awsign: " ++ (decimal (read / 1048576) ++ codes " MiB read"))

-- blanks over what was said
abbrev pub covering_text : List ℕ
covering_text = carriage_return ∷ (codes "                                        " ++ (carriage_return ∷ []))

-- what is said where the count of bytes goes from one number to another: how much is read, where it passes another step
abbrev pub step_said : ℕ → ℕ → Option (List ℕ)
step_said before now = if nat_lt (steps_before before) (steps_before now) then Some (progress_text now) else None

-- what is said at the end, or at a fault, behind so many bytes: blanks, where something was said
abbrev pub end_said : ℕ → Option (List ℕ)
end_said read = if nat_lt progress_step read then Some covering_text else None

-- what is said of a read behind so many bytes
abbrev pub progress_said : Result ℕ Failed → ℕ → Option (List ℕ)
progress_said (Ok (suc n)) read = step_said read (read_with read (suc n))
progress_said (Ok zero) read = end_said read
progress_said (Err fault) read = end_said read

-- how many bytes are read behind a read
abbrev pub count_behind : Result ℕ Failed → ℕ → ℕ
count_behind (Ok (suc n)) read = read_with read (suc n)
count_behind (Ok zero) read = read
count_behind (Err fault) read = read

-- it was said, all of it or a part; or memory ran out, and nothing is
abbrev pub SaysProgress : Option (List ℕ) → Option (List ℕ) → Option (List ℕ) → Type 0
SaysProgress None before now = now ≡ before
SaysProgress (Some text) before now = GainsSome before now text ⊎ (now ≡ before)

-- how many bytes a source has read
abbrev pub bytes_read : {S E : Type 0} → ProgressSource S E → ℕ
bytes_read source = source.read

-- where a source says it
abbrev pub said_on : {S E : Type 0} → ProgressSource S E → E
said_on source = source.err
