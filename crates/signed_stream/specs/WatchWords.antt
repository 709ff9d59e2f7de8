-- The words of `watch`.
use Rattle.std.specs.Prelude.{◌≡◌, ℕ, Bool, if◌then◌else◌, List, codes, bytes_eq, Option, Some, None, is_some, option_map, Result, Ok, Err}
use Rattle.std.specs.Option.{option_copied}
use Rattle.sigv4.specs.Signature.{is_signature}
use Rattle.job_text.specs.Pieces.{after_pieces}
use Rattle.signed_stream.specs.OptionWords.{OptionRules, no_flag, options_from}
use Rattle.signed_stream.specs.ProfileOptions.{ProfileWanted, nothing_wanted, profile_option, profile_wanted, stands, with_profile_option}
use Rattle.signed_stream.specs.declared.command.watch.GivenWatch.{GivenWatch}
use Rattle.signed_stream.specs.declared.command.watch.WatchOption.{WatchOption}
use Rattle.signed_stream.specs.declared.command.watch.WatchOption.TheVariants.{Name, Seed, OfProfile}
use Rattle.signed_stream.specs.declared.command.watch.WatchWords.{WatchWords}
use Rattle.job_text.specs.declared.words.WordsFault.{WordsFault}
use Rattle.job_text.specs.declared.words.WordsFault.TheVariants.{BadWord, NoMemory}

-- what `watch` is asked for: the name of the service, the signature that the first frame is signed over, and the profile
pub record WatchWanted : Type 0 where
  pub name : List ℕ
  pub seed : List ℕ
  pub profile : ProfileWanted

-- what the options of `watch` so far gave
pub record WatchGiven : Type 0 where
  pub name : Option (List ℕ)
  pub seed : Option (List ℕ)
  pub profile : ProfileWanted

-- no options of `watch`
abbrev pub no_watch_given : WatchGiven
no_watch_given = record { name = None; seed = None; profile = nothing_wanted }

-- the option of `watch` that a word names
abbrev pub watch_option : List ℕ → Option WatchOption
watch_option word =
    if bytes_eq word (codes "--name") then Some Name else if bytes_eq word (codes "--seed") then Some Seed else option_map OfProfile (profile_option word)

-- the option of `watch` stood
abbrev pub stands_in_watch : WatchGiven → WatchOption → Bool
stands_in_watch given Name = is_some given.name
stands_in_watch given Seed = is_some given.seed
stands_in_watch given (OfProfile option) = stands given.profile option

-- what was given with the value of an option more; a seed has 64 digits in lower case
abbrev pub with_watch_option : WatchGiven → WatchOption → List ℕ → Option WatchGiven
with_watch_option given Name value = Some (record given { name = Some value })
with_watch_option given Seed value = if is_signature value then Some (record given { seed = Some value }) else None
with_watch_option given (OfProfile option) value = Some (record given { profile = with_profile_option given.profile option value })

-- the options of `watch`, each of which stands once
abbrev pub watch_rules : OptionRules WatchGiven WatchOption
watch_rules = record { named = watch_option; stood = stands_in_watch; valued = with_watch_option; flagged = no_flag }

-- the words of `watch` are over: what is asked for, or the place after the last word, where the name or the seed is missing
abbrev pub watch_asked : ℕ → ProfileWanted → Option (List ℕ) → Option (List ℕ) → Result WatchWanted ℕ
watch_asked place profile None seed = Err place
watch_asked place profile (Some name) None = Err place
watch_asked place profile (Some name) (Some seed) = Ok (record { name = name; seed = seed; profile = profile })

-- what all words behind `watch` ask for
abbrev pub watch_words : ℕ → WatchGiven → Result WatchWanted ℕ
watch_words place given = watch_asked place given.profile given.name given.seed

-- what the words behind `watch` ask for, or the place of the first that is bad or missing
abbrev pub read_after_watch : List (List ℕ) → Result WatchWanted ℕ
read_after_watch words = after_pieces watch_words (options_from watch_rules 2 no_watch_given words)

-- ## Answers

-- what contracts see of what the options of `watch` gave
abbrev pub watch_given : GivenWatch → WatchGiven
watch_given given = record { name = option_copied given.name; seed = option_copied given.seed; profile = profile_wanted given.profile }

-- what the words ask `watch` for
abbrev pub watch_wanted : WatchWords → WatchWanted
watch_wanted words = record { name = words.name.now; seed = words.seed.now; profile = profile_wanted words.profile }

-- this is what the words ask `watch` for, or the one at this place is bad; or memory ran out
abbrev pub ReadsWatch : Result WatchWanted ℕ → Result WatchWords WordsFault → Type 0
ReadsWatch read (Ok words) = read ≡ Ok (watch_wanted words)
ReadsWatch read (Err (BadWord place)) = read ≡ Err place
ReadsWatch read (Err NoMemory) = Unit {0}
