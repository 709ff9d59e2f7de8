-- An input of lines of hexadecimal.
use Rattle.std.specs.Prelude.{◌≡◌, ◌⊎◌, ℕ, IsErrAnd, List, [], ◌++◌, Option, option_map, Result, Ok, Err}
use Rattle.std.specs.Global.{Vec}
use Rattle.smithy_core.specs.Outside.{IsAllOf, IsLongerThan}
use Rattle.job_text.specs.EventHeader.{hex_bytes}
use Rattle.job_text.specs.Lines.{after_text, text_lines}
use Rattle.job_text.specs.Pieces.{after_pieces, taken_from}
use Rattle.job_text.specs.declared.fault.JobFault.{JobFault}
use Rattle.job_text.specs.declared.fault.JobFault.TheVariants as job
use Rattle.awsign_run.specs.declared.status.Status.TheVariants.{NoMemory}
use Rattle.awsign_events.specs.declared.status.EventsStatus.{EventsStatus}
use Rattle.awsign_events.specs.declared.status.EventsStatus.TheVariants.{BadLine, Ended, InputFault, TooLarge}

-- the most bytes of an input that is kept whole: 64 MiB
abbrev pub most_input : ℕ
most_input = 67108864

-- a line more: an even number of hexadecimal digits, in either case
abbrev pub hex_step : List ℕ → List ℕ → Option (List ℕ)
hex_step bytes line = option_map (λ more. bytes ++ more) (hex_bytes line)

-- the bytes that lines of hexadecimal spell, or the place of the first bad line
unfoldable pub unhexed : List ℕ → Result (List ℕ) ℕ
unhexed text = after_text (λ lines. after_pieces (λ place bytes. Ok bytes) (taken_from hex_step 1 [] lines)) (text_lines text)

-- these are the bytes that a text spells, or its line at this place is bad; or memory ran out
abbrev pub Unhexes : List ℕ → Result (Vec ℕ) JobFault → Type 0
Unhexes text (Ok bytes) = unhexed text ≡ Ok bytes.items
Unhexes text (Err (job.BadLine place)) = unhexed text ≡ Err place
Unhexes text (Err job.NoMemory) = Unit {0}

-- the input can't be read, or is too large; or memory ran out
abbrev pub LacksInput : Option (List ℕ) → EventsStatus → Type 0
LacksInput left InputFault = Unit {0}
LacksInput left TooLarge = IsLongerThan left most_input
LacksInput left (Ended NoMemory) = Unit {0}
LacksInput left status = ⊥

-- these are the bytes of the input's text, or its line at this place is bad; or memory ran out
abbrev pub GivesUnhexed : Result (List ℕ) ℕ → Result (Vec ℕ) EventsStatus → Type 0
GivesUnhexed spelled (Ok bytes) = spelled ≡ Ok bytes.items
GivesUnhexed spelled (Err (BadLine place)) = spelled ≡ Err place
GivesUnhexed spelled (Err (Ended NoMemory)) = Unit {0}
GivesUnhexed spelled (Err status) = ⊥

-- the bytes that the lines of the input spell were read, or the line at this place is bad; or why the input wasn't read
abbrev pub ReadsHex : Option (List ℕ) → Result (Vec ℕ) EventsStatus → Type 0
ReadsHex left result = ((text : List ℕ) × IsAllOf left text × GivesUnhexed (unhexed text) result) ⊎ IsErrAnd result (LacksInput left)
