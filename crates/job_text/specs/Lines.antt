-- Lines, and the words in them.
use Rattle.std.specs.Prelude.{◌≡◌, ℕ, ◌+◌, ◌==◌, ◌&&◌, if◌then◌else◌, List, [], ◌∷◌, length, take, drop, count_by, slice_index, Option, Some, None, option_map, Result, Ok, Err}
use Rattle.std.specs.Borrow.{Bor}
use Rattle.std.specs.List.{before_first, after_first, onto_first}
use Rattle.std.specs.Str.Lossy.{utf8_valid_len}
use Rattle.smithy_core.specs.Text.{line_feed, space}
use Rattle.job_text.specs.declared.fault.JobFault.{JobFault}
use Rattle.job_text.specs.declared.fault.JobFault.TheVariants.{BadLine, NoMemory}
use Rattle.job_text.specs.declared.fault.LineFault.{LineFault}
use Rattle.job_text.specs.declared.fault.LineFault.TheVariants.{Bad, NoMemory as LineNoMemory}

-- a line ends at LF, and the last one may lack it
unfoldable pub job_lines : List ℕ → List (List ℕ)
job_lines [] = []
job_lines (b ∷ bytes) = if b == line_feed then [] ∷ job_lines bytes else onto_first b (job_lines bytes)

-- the lines of the bytes; bytes that aren't UTF-8 are bad at the line of the first bad byte
unfoldable pub text_lines : List ℕ → Result (List (List ℕ)) ℕ
text_lines bytes =
    if utf8_valid_len bytes == length bytes then Ok (job_lines bytes)
    else Err (count_by (λ b. b == line_feed) (take (utf8_valid_len bytes) bytes) + 1)

-- goes on with the lines, where the bytes are UTF-8
abbrev pub after_text : {A : Type 0} → (List (List ℕ) → Result A ℕ) → Result (List (List ℕ)) ℕ → Result A ℕ
after_text others (Ok lines) = others lines
after_text others (Err place) = Err place

-- what stands before the first space, or all
abbrev pub word_of : List ℕ → List ℕ
word_of line = before_first (λ b. b == space) line

-- what stands after the first space, or nothing
abbrev pub after_word_of : List ℕ → List ℕ
after_word_of line = after_first (λ b. b == space) line

-- `:`
abbrev pub colon : ℕ
colon = 58

-- what stands before the first `: `, and what stands after it
unfoldable pub header_of_line : List ℕ → Option (List ℕ × List ℕ)
header_of_line [] = None
header_of_line (b ∷ bytes) =
    if b == colon && slice_index bytes 0 == space then Some ([], drop 1 bytes)
    else option_map (λ pair. (b ∷ pair.0, pair.1)) (header_of_line bytes)

-- ## Answers

-- the text has these lines, or the line at this place is bad
abbrev pub GivesLines : Result (List (List ℕ)) ℕ → Result (Bor (List ℕ)) JobFault → Type 0
GivesLines lines (Ok text) = lines ≡ Ok (job_lines text.now)
GivesLines lines (Err (BadLine place)) = lines ≡ Err place
GivesLines lines (Err NoMemory) = ⊥

-- the texts of a pair
abbrev pub texts_of_pair : Option (Bor (List ℕ) × Bor (List ℕ)) → Option (List ℕ × List ℕ)
texts_of_pair pair = option_map (λ parts. (parts.0.now, parts.1.now)) pair

-- a line was taken as the step says, unless memory ran out
abbrev pub Moves : {D : Type 0} → Option D → D → Result (Unit {0}) LineFault → Type 0
Moves step now (Ok _) = step ≡ Some now
Moves step now (Err Bad) = step ≡ None
Moves step now (Err LineNoMemory) = Unit {0}

-- the lines were taken, and this is the place behind them; or the line at this place is bad; or memory ran out
abbrev pub TakesLines : {D : Type 0} → Result (D × ℕ) ℕ → D → Result ℕ JobFault → Type 0
TakesLines taken now (Ok place) = taken ≡ Ok (now, place)
TakesLines taken now (Err (BadLine place)) = taken ≡ Err place
TakesLines taken now (Err NoMemory) = Unit {0}
