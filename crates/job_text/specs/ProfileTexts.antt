-- The texts of profile files that an input holds, line by line.
use Rattle.std.specs.Prelude.{◌≡◌, ℕ, ◌==◌, if◌then◌else◌, List, [], ◌++◌, length, codes, bytes_eq, string_bytes, Option, Some, None, option_map, unwrap_or, Result, Ok, Err}
use Rattle.smithy_core.specs.Text.{line}
use Rattle.job_text.specs.Lines.{after_text, after_word_of, text_lines, word_of}
use Rattle.job_text.specs.Pieces.{after_pieces, taken_from}
use Rattle.job_text.specs.declared.fault.JobFault.{JobFault}
use Rattle.job_text.specs.declared.fault.JobFault.TheVariants.{BadLine, NoMemory}
use Rattle.job_text.specs.declared.profile_texts.ProfileTexts.{ProfileTexts as HeldTexts}

-- the text of a config file and that of a credentials file, each from its first line on
pub record ProfileTexts : Type 0 where
  pub config : Option (List ℕ)
  pub credentials : Option (List ℕ)

-- no line of a text yet
abbrev pub no_texts : ProfileTexts
no_texts = record { config = None; credentials = None }

-- a text with a line more
abbrev pub with_line : Option (List ℕ) → List ℕ → Option (List ℕ)
with_line text rest = Some (unwrap_or text [] ++ line rest)

-- `config TEXT` or `credentials TEXT`: a line more of that text
unfoldable pub profile_step : ProfileTexts → List ℕ → List ℕ → Option ProfileTexts
profile_step texts word rest =
    if bytes_eq word (codes "config") then Some (record texts { config = with_line texts.config rest })
    else if bytes_eq word (codes "credentials") then Some (record texts { credentials = with_line texts.credentials rest })
    else None

-- what a line of texts alone does; an empty one does nothing
unfoldable pub texts_line_step : ProfileTexts → List ℕ → Option ProfileTexts
texts_line_step texts line = if length line == 0 then Some texts else profile_step texts (word_of line) (after_word_of line)

-- the texts of all lines
abbrev pub whole_texts : ℕ → ProfileTexts → Result ProfileTexts ℕ
whole_texts place texts = Ok texts

-- the texts that the bytes spell, or the place of the first bad line
unfoldable pub profile_texts : List ℕ → Result ProfileTexts ℕ
profile_texts bytes = after_text (λ lines. after_pieces whole_texts (taken_from texts_line_step 1 no_texts lines)) (text_lines bytes)

-- ## Answers

-- what contracts see of texts
abbrev pub texts_of : HeldTexts → ProfileTexts
texts_of texts = record { config = option_map string_bytes texts.config; credentials = option_map string_bytes texts.credentials }

-- the texts are the ones that are read; or the line at this place is bad; or memory ran out
abbrev pub ReadsTexts : Result ProfileTexts ℕ → Result HeldTexts JobFault → Type 0
ReadsTexts read (Ok texts) = read ≡ Ok (texts_of texts)
ReadsTexts read (Err (BadLine place)) = read ≡ Err place
ReadsTexts read (Err NoMemory) = Unit {0}
