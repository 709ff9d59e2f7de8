-- The words of a program that reads a job without events.
use Rattle.std.specs.Prelude.{◌≡◌, ℕ, Bool, if◌then◌else◌, List, codes, bytes_eq, Option, Some, None, is_some, option_map, Result, Ok, Err}
use Rattle.std.specs.Option.{option_copied}
use Rattle.smithy_core.specs.Moment.{Instant}
use Rattle.job_text.specs.Pieces.{after_pieces}
use Rattle.signed_stream.specs.OptionWords.{OptionRules, no_flag, options_from, spelled_moment}
use Rattle.signed_stream.specs.ProfileOptions.{ProfileWanted, nothing_wanted, profile_option, profile_wanted, stands, with_profile_option}
use Rattle.signed_stream.specs.declared.command.request.GivenRequest.{GivenRequest}
use Rattle.signed_stream.specs.declared.command.request.RequestOption.{RequestOption}
use Rattle.signed_stream.specs.declared.command.request.RequestOption.TheVariants.{Name, At, OfProfile}
use Rattle.signed_stream.specs.declared.command.request.RequestWords.{RequestWords}
use Rattle.job_text.specs.declared.words.WordsFault.{WordsFault}
use Rattle.job_text.specs.declared.words.WordsFault.TheVariants.{BadWord, NoMemory}

-- what the words ask for: the name of the service, the moment where they name one, and the profile
pub record RequestWanted : Type 0 where
  pub name : List ℕ
  pub at : Option Instant
  pub profile : ProfileWanted

-- what the options so far gave
pub record RequestGiven : Type 0 where
  pub name : Option (List ℕ)
  pub at : Option Instant
  pub profile : ProfileWanted

-- no options of a request
abbrev pub no_request_given : RequestGiven
no_request_given = record { name = None; at = None; profile = nothing_wanted }

-- the option that a word names
abbrev pub request_option : List ℕ → Option RequestOption
request_option word =
    if bytes_eq word (codes "--name") then Some Name else if bytes_eq word (codes "--at") then Some At else option_map OfProfile (profile_option word)

-- the option stood
abbrev pub stands_for_request : RequestGiven → RequestOption → Bool
stands_for_request given Name = is_some given.name
stands_for_request given At = is_some given.at
stands_for_request given (OfProfile option) = stands given.profile option

-- what was given with the value of an option more
abbrev pub with_request_option : RequestGiven → RequestOption → List ℕ → Option RequestGiven
with_request_option given Name value = Some (record given { name = Some value })
with_request_option given At value = option_map (λ at. record given { at = Some at }) (spelled_moment value)
with_request_option given (OfProfile option) value = Some (record given { profile = with_profile_option given.profile option value })

-- the options, each of which stands once
abbrev pub request_rules : OptionRules RequestGiven RequestOption
request_rules = record { named = request_option; stood = stands_for_request; valued = with_request_option; flagged = no_flag }

-- the words are over: what is asked for, or the place after the last word, where the name is missing
abbrev pub request_asked : ℕ → RequestGiven → Option (List ℕ) → Result RequestWanted ℕ
request_asked place given None = Err place
request_asked place given (Some name) = Ok (record { name = name; at = given.at; profile = given.profile })

-- what all words ask for
abbrev pub all_request_words : ℕ → RequestGiven → Result RequestWanted ℕ
all_request_words place given = request_asked place given given.name

-- what the words behind the program's name ask for, or the place of the first that is bad or missing
unfoldable pub request_words : List (List ℕ) → Result RequestWanted ℕ
request_words words = after_pieces all_request_words (options_from request_rules 1 no_request_given words)

-- the moment that is asked for, or the place where it is missing
abbrev pub at_or_place : ℕ → Option Instant → Result Instant ℕ
at_or_place place None = Err place
at_or_place place (Some at) = Ok at

-- ## Answers

-- what contracts see of what the options gave
abbrev pub request_given : GivenRequest → RequestGiven
request_given given = record { name = option_copied given.name; at = given.at; profile = profile_wanted given.profile }

-- what the words ask for
abbrev pub request_wanted : RequestWords → RequestWanted
request_wanted words = record { name = words.name.now; at = words.at; profile = profile_wanted words.profile }

-- this is what the words ask for, or the one at this place is bad; or memory ran out
abbrev pub ReadsRequestWords : Result RequestWanted ℕ → Result RequestWords WordsFault → Type 0
ReadsRequestWords read (Ok words) = read ≡ Ok (request_wanted words)
ReadsRequestWords read (Err (BadWord place)) = read ≡ Err place
ReadsRequestWords read (Err NoMemory) = Unit {0}

-- this is the moment, or the word at this place is missing
abbrev pub GivesMoment : Result Instant ℕ → Result Instant WordsFault → Type 0
GivesMoment asked (Ok at) = asked ≡ Ok at
GivesMoment asked (Err (BadWord place)) = asked ≡ Err place
GivesMoment asked (Err NoMemory) = ⊥
