-- For how long a presigned URL is good, as it is written: a number of seconds, or a number and then a unit, `s`, `m`, `h` or `d`.
use Rattle.std.specs.Prelude.{ℕ, ◌+◌, ◌-◌, ◌*◌, ◌==◌, nat_lt, if◌then◌else◌, List, length, slice_index, Option, Some, None}
use Rattle.std.specs.List.{before_first, position_or_len}
use Rattle.job_text.specs.ChunkSize.{unless_zero}
use Rattle.job_text.specs.Numbers.{natural_below}

-- a number of units of so many seconds, where a `u64` holds their seconds
abbrev pub in_secs : ℕ → Option ℕ → Option ℕ
in_secs unit None = None
in_secs unit (Some number) = if nat_lt (number * unit) 18446744073709551616 then Some (number * unit) else None

-- a number of units: decimal digits, and behind them nothing but the unit's letter
abbrev pub units : ℕ → ℕ → List ℕ → Option ℕ
units letter unit text =
    if position_or_len (λ byte. byte == letter) text + 1 == length text
    then in_secs unit (natural_below 18446744073709551616 (before_first (λ byte. byte == letter) text))
    else None

-- the letter that a text ends with, or another byte
abbrev pub last_byte : List ℕ → ℕ
last_byte text = slice_index text (length text - 1)

-- how many seconds a length of time has: a number alone has seconds, and a unit is a second, a minute, an hour or a day
unfoldable pub written_secs : List ℕ → Option ℕ
written_secs text =
    if last_byte text == 115 then units 115 1 text
    else if last_byte text == 109 then units 109 60 text
    else if last_byte text == 104 then units 104 3600 text
    else if last_byte text == 100 then units 100 86400 text
    else natural_below 18446744073709551616 text

-- the seconds for which a word says that a URL is good: one at least
abbrev pub expiry_named : List ℕ → Option ℕ
expiry_named word = unless_zero (written_secs word)
