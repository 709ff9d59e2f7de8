-- The words behind `awsign events`: what is done, and then options, each at most once.
use Rattle.std.specs.Prelude.{◌≡◌, ℕ, Bool, true, false, not, ◌&&◌, ◌||◌, if◌then◌else◌, List, [], ◌∷◌, ◌++◌, codes, bytes_eq, Option, Some, None, is_some, option_and_then, option_copied, unwrap_or, Result, Ok, Err}
use Rattle.smithy_core.specs.TextPairs.{last_value}
use Rattle.job_text.specs.Pieces.{after_pieces, taken_from}
use Rattle.job_text.specs.declared.words.WordsFault.{WordsFault}
use Rattle.job_text.specs.declared.words.WordsFault.TheVariants.{BadWord, NoMemory}
use Rattle.sigv4.specs.Signature.{is_signature}
use Rattle.awsign_words.specs.Sources.{is_source_option}
use Rattle.awsign_words.specs.declared.events.EventForm.{EventForm}
use Rattle.awsign_words.specs.declared.events.EventForm.TheVariants.{Lines, JsonLines}
use Rattle.awsign_words.specs.declared.events.EventsAction.{EventsAction}
use Rattle.awsign_words.specs.declared.events.EventsAction.TheVariants.{Decode, Encode, Verify}
use Rattle.awsign_words.specs.declared.events.EventsAsked.{EventsAsked}
use Rattle.awsign_words.specs.declared.events.GivenEvents.{GivenEvents}

-- what is done, and the values of options by their words, in order
pub record EventsWanted : Type 0 where
  pub action : EventsAction
  pub options : List (List ℕ × List ℕ)

-- what the words so far gave: what is done, options, and the one that waits for its value
pub record EventsGiven : Type 0 where
  pub action : Option EventsAction
  pub options : List (List ℕ × List ℕ)
  pub awaited : Option (List ℕ)

-- no words of `events` yet
abbrev pub no_event_words : EventsGiven
no_event_words = record { action = None; options = []; awaited = None }

-- ## Options

-- the option stood
abbrev pub has_stood : List (List ℕ × List ℕ) → List ℕ → Bool
has_stood options word = is_some (last_value options word)

-- an option without a value: whether frames are bytes or lines of hexadecimal
abbrev pub is_event_flag : List ℕ → Bool
is_event_flag word = bytes_eq word (codes "--raw") || bytes_eq word (codes "--hex")

-- the option can't stand any more
abbrev pub is_event_spent : List (List ℕ × List ℕ) → List ℕ → Bool
is_event_spent options word = has_stood options word || (is_event_flag word && (has_stood options (codes "--raw") || has_stood options (codes "--hex")))

-- an option whose value is the next word
abbrev pub takes_event_value : EventsAction → List ℕ → Bool
takes_event_value Decode word = bytes_eq word (codes "--as")
takes_event_value Encode word = false
takes_event_value Verify word = bytes_eq word (codes "--as") || bytes_eq word (codes "--seed") || bytes_eq word (codes "--service") || is_source_option word

-- an option that is needed didn't stand: events are verified over a seed, for a service
abbrev pub lacks_event_option : EventsAction → List (List ℕ × List ℕ) → Bool
lacks_event_option Decode options = false
lacks_event_option Encode options = false
lacks_event_option Verify options = not (has_stood options (codes "--seed") && has_stood options (codes "--service"))

-- the form of events that a word names
abbrev pub event_form_named : List ℕ → Option EventForm
event_form_named word = if bytes_eq word (codes "lines") then Some Lines else if bytes_eq word (codes "json") then Some JsonLines else None

-- the form that options ask for, or else lines
abbrev pub asked_event_form : List (List ℕ × List ℕ) → EventForm
asked_event_form options = unwrap_or (option_and_then event_form_named (last_value options (codes "--as"))) Lines

-- whether the value fits its option: a seed is a signature, 64 digits in lower case
abbrev pub is_event_fit : List ℕ → List ℕ → Bool
is_event_fit option value =
    if bytes_eq option (codes "--as") then is_some (event_form_named value)
    else if bytes_eq option (codes "--seed") then is_signature value
    else true

-- ## Words

-- what a word names is done
abbrev pub action_named : List ℕ → Option EventsAction
action_named word =
    if bytes_eq word (codes "decode") then Some Decode
    else if bytes_eq word (codes "encode") then Some Encode
    else if bytes_eq word (codes "verify") then Some Verify
    else None

-- the word that says what is done
abbrev pub take_action : EventsGiven → Option EventsAction → Option EventsGiven
take_action given None = None
take_action given (Some action) = Some (record given { action = Some action })

-- the value of an option
abbrev pub take_event_value : EventsGiven → List ℕ → List ℕ → Option EventsGiven
take_event_value given option value =
    if is_event_fit option value then Some (record given { options = given.options ++ (option, value) ∷ []; awaited = None }) else None

-- an option of what is done
abbrev pub take_event_option : EventsGiven → EventsAction → List ℕ → Option EventsGiven
take_event_option given action word =
    if is_event_spent given.options word then None
    else if takes_event_value action word then Some (record given { awaited = Some word })
    else if is_event_flag word then Some (record given { options = given.options ++ (word, []) ∷ [] })
    else None

-- a word: first what is done, and then options, behind one that waits or not
abbrev pub take_event_word : EventsGiven → Option EventsAction → Option (List ℕ) → List ℕ → Option EventsGiven
take_event_word given None awaited word = take_action given (action_named word)
take_event_word given (Some action) None word = take_event_option given action word
take_event_word given (Some action) (Some option) word = take_event_value (record given { awaited = None }) option word

-- a word
abbrev pub event_word : EventsGiven → List ℕ → Option EventsGiven
event_word given word = take_event_word given given.action given.awaited word

-- the words are over: it is said what is done, no option waits and none lacks
abbrev pub event_words_of : ℕ → EventsGiven → Option EventsAction → Option (List ℕ) → Result EventsWanted ℕ
event_words_of place given (Some action) None = if lacks_event_option action given.options then Err place else Ok (record { action = action; options = given.options })
event_words_of place given (Some action) (Some option) = Err place
event_words_of place given None awaited = Err place

-- what all words of `events` ask for
abbrev pub all_event_words : ℕ → EventsGiven → Result EventsWanted ℕ
all_event_words place given = event_words_of place given given.action given.awaited

-- what the words behind `events` ask for, or the place of the first bad one
unfoldable pub events_words : List (List ℕ) → Result EventsWanted ℕ
events_words words = after_pieces all_event_words (taken_from event_word 2 no_event_words words)

-- ## Answers

-- what contracts see of what the words of `events` gave
abbrev pub given_events : GivenEvents → EventsGiven
given_events given = record { action = given.action; options = given.options; awaited = option_copied given.awaited }

-- what contracts see of what is asked of events
abbrev pub events_wanted : EventsAsked → EventsWanted
events_wanted asked = record { action = asked.action; options = asked.options }

-- this is what is asked of events, or the word at this place is bad; or memory ran out
abbrev pub ReadsEventsAsked : Result EventsWanted ℕ → Result EventsAsked WordsFault → Type 0
ReadsEventsAsked read (Ok asked) = read ≡ Ok (events_wanted asked)
ReadsEventsAsked read (Err (BadWord place)) = read ≡ Err place
ReadsEventsAsked read (Err NoMemory) = Unit {0}
