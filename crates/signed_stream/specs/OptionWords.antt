-- The words of a command that has options, most of which have a value, the word behind it.
use Rattle.std.specs.Prelude.{◌≡◌, ℕ, Bool, if◌then◌else◌, List, Option, Some, None, option_map, Result, Ok, Err}
use Rattle.std.specs.Int.{w64}
use Rattle.smithy_core.specs.Moment.{Instant}
use Rattle.job_text.specs.Numbers.{number}
use Rattle.job_text.specs.Pieces.{after_pieces, taken_from}
use Rattle.job_text.specs.declared.words.WordsFault.{WordsFault}
use Rattle.job_text.specs.declared.words.WordsFault.TheVariants.{BadWord, NoMemory}

-- the options of a command: which one a word names that has a value, whether it stood where no second may, and what is given with its value, where that
-- isn't bad; and what is given with a word that is an option without a value, where it is one
pub record OptionRules (G O : Type 0) : Type 0 where
  pub named : List ℕ → Option O
  pub stood : G → O → Bool
  pub valued : G → O → List ℕ → Option G
  pub flagged : G → List ℕ → Option G

-- a command without such words
abbrev pub no_flag : {G : Type 0} → G → List ℕ → Option G
no_flag given word = None

-- what the words so far gave, and the option that waits for its value
pub record Awaiting (G O : Type 0) : Type 0 where
  pub given : G
  pub awaited : Option O

-- no option waits for its value
abbrev pub none_awaited : {G O : Type 0} → G → Awaiting G O
none_awaited given = record { given = given; awaited = None }

-- a word that is to be an option: it waits for its value, where it has one
abbrev pub take_option : {G O : Type 0} → OptionRules G O → G → Option O → List ℕ → Option (Awaiting G O)
take_option rules given None word = option_map none_awaited (rules.flagged given word)
take_option rules given (Some option) word = if rules.stood given option then None else Some (record { given = given; awaited = Some option })

-- a word: the value of the option that waits for one, or else an option; or it is bad
abbrev pub take_option_word : {G O : Type 0} → OptionRules G O → G → Option O → List ℕ → Option (Awaiting G O)
take_option_word rules given None word = take_option rules given (rules.named word) word
take_option_word rules given (Some option) word = option_map none_awaited (rules.valued given option word)

-- a word, with what the words before it gave
abbrev pub option_word : {G O : Type 0} → OptionRules G O → Awaiting G O → List ℕ → Option (Awaiting G O)
option_word rules before word = take_option_word rules before.given before.awaited word

-- the words are over: what they gave, and the place behind the last one, where a word is missing if an option waits for its value
abbrev pub whole_options : {G O : Type 0} → ℕ → G → Option O → Result (G × ℕ) ℕ
whole_options place given None = Ok (given, place)
whole_options place given (Some option) = Err place

-- what the words give, of which the first has this place, and the place behind the last one; or the place of the first that is bad or missing
abbrev pub options_from : {G O : Type 0} → OptionRules G O → ℕ → G → List (List ℕ) → Result (G × ℕ) ℕ
options_from rules first none words =
    after_pieces (λ place before. whole_options place before.given before.awaited) (taken_from (option_word rules) first (none_awaited none) words)

-- the moment whose seconds a word spells, as a number of 64 bits
abbrev pub spelled_moment : List ℕ → Option Instant
spelled_moment word = option_map (λ secs. record { secs = secs; nanos = 0 }) (number w64 word)

-- this is what the words give, as contracts see it, and the place behind the last one; or the word at this place is bad or missing; or memory ran out
abbrev pub ReadsGiven : {T G : Type 0} → (T → G) → Result (G × ℕ) ℕ → Result (T × ℕ) WordsFault → Type 0
ReadsGiven given read (Ok gave) = read ≡ Ok (given gave.0, gave.1)
ReadsGiven given read (Err (BadWord place)) = read ≡ Err place
ReadsGiven given read (Err NoMemory) = Unit {0}
