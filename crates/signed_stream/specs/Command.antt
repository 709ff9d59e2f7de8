-- The words of the command line.
use Rattle.std.specs.Prelude.{ℕ, Bool, true, false, not, ◌&&◌, if◌then◌else◌, List, [], ◌∷◌, codes, bytes_eq, Option, Some, None, is_some, option_map, Result, Ok, Err, ℤ}
use Rattle.std.specs.Int.{w64}
use Rattle.smithy_core.specs.Moment.{Instant}
use Rattle.sigv4.specs.Settings.{is_query}
use Rattle.aws_auth.specs.Inputs.{location_of}
use Rattle.aws_auth.specs.Options.{default_options}
use Rattle.aws_auth.specs.declared.options.HttpSignatureType.TheVariants.{HttpRequestQueryParams}
use Rattle.aws_auth.specs.declared.options.SigningOptions.{SigningOptions}
use Rattle.aws_auth.specs.declared.payload.PayloadSigningOverride.TheVariants.{UnsignedPayload}
use Rattle.signed_stream.specs.ChunkWords.{ChunkGiven, ChunkWanted, chunk_asked, chunk_word, no_chunk_given}
use Rattle.job_text.specs.Numbers.{natural_below, number}
use Rattle.job_text.specs.Pieces.{taken_from}
use Rattle.signed_stream.specs.OptionWords.{OptionRules, no_flag, options_from, spelled_moment}
use Rattle.signed_stream.specs.ProfileOptions.{ProfileWanted, nothing_wanted, profile_option, profile_rules, names_file, stands, with_profile_option}
use Rattle.signed_stream.specs.declared.command.check.CheckOption.{CheckOption}
use Rattle.signed_stream.specs.declared.command.check.CheckOption.TheVariants.{Name as NameOfCheck, OfProfile as OfProfileOfCheck}
use Rattle.signed_stream.specs.declared.command.chunk.ChunkValue.{ChunkValue}
use Rattle.signed_stream.specs.declared.command.stream.StreamOption.{StreamOption}
use Rattle.signed_stream.specs.declared.command.stream.StreamOption.TheVariants.{Name, At, Expires, TokenName, Skew, OfProfile}
use Rattle.signed_stream.specs.declared.form.Form.{Form}
use Rattle.signed_stream.specs.declared.form.Form.TheVariants.{Raw, HexLines}

-- the frames alone are written
abbrev pub is_raw : Form → Bool
is_raw Raw = true
is_raw HexLines = false

-- what `stream` is asked for: the name of the service, the moment that all have, where it isn't the clock that gives them, how to sign, the name of the
-- session token, by how many milliseconds the service's clock is ahead, in which form to write, and the profile
pub record Wanted : Type 0 where
  pub name : List ℕ
  pub at : Option Instant
  pub signing : SigningOptions
  pub token_name : Option (List ℕ)
  pub skew_millis : Option ℤ
  pub form : Form
  pub profile : ProfileWanted

-- what `check` is asked for: the name of the service, and the profile
pub record CheckWanted : Type 0 where
  pub name : List ℕ
  pub profile : ProfileWanted

-- what the words ask for
pub data Command : Type 0 where
  -- the word at this place is bad
  bad_word : ℕ → Command
  -- to sign and stream the job
  stream : Wanted → Command
  -- to show what the profile gives
  show_settings : ProfileWanted → Command
  -- to write the input in chunks
  write_chunks : ChunkWanted → Command
  -- to check a record
  check_record : CheckWanted → Command
  -- to stream a generated job into memory and check it: with this seed so many events
  generate : ℕ → ℕ → Command

-- ## `stream`

-- what the options so far gave
pub record StreamGiven : Type 0 where
  pub name : Option (List ℕ)
  pub at : Option Instant
  pub signing : SigningOptions
  pub token_name : Option (List ℕ)
  pub skew_millis : Option ℤ
  pub form : Form
  pub profile : ProfileWanted

-- no options
abbrev pub no_stream_given : StreamGiven
no_stream_given = record { name = None; at = None; signing = default_options; token_name = None; skew_millis = None; form = HexLines; profile = nothing_wanted }

-- an option that stands once
abbrev pub once : Bool → StreamGiven → Option StreamGiven
once stood given = if stood then None else Some given

-- an option without a value, or none of them
abbrev pub take_flag : StreamGiven → List ℕ → Option StreamGiven
take_flag given word =
    if bytes_eq word (codes "--query") then once (is_query (location_of given.signing.signature_type)) (record given { signing = record given.signing { signature_type = HttpRequestQueryParams } })
    else if bytes_eq word (codes "--omit-token") then once given.signing.omit_session_token (record given { signing = record given.signing { omit_session_token = true } })
    else if bytes_eq word (codes "--sha256") then once given.signing.content_sha256_header (record given { signing = record given.signing { content_sha256_header = true } })
    else if bytes_eq word (codes "--single-encode") then once (not given.signing.double_uri_encode) (record given { signing = record given.signing { double_uri_encode = false } })
    else if bytes_eq word (codes "--no-normalize") then once (not given.signing.normalize_uri_path) (record given { signing = record given.signing { normalize_uri_path = false } })
    else if bytes_eq word (codes "--unsigned") then once (is_some given.signing.payload_override) (record given { signing = record given.signing { payload_override = Some UnsignedPayload } })
    else if bytes_eq word (codes "--raw") then once (is_raw given.form) (record given { form = Raw })
    else None

-- the option with a value that a word names
abbrev pub stream_option : List ℕ → Option StreamOption
stream_option word =
    if bytes_eq word (codes "--name") then Some Name
    else if bytes_eq word (codes "--at") then Some At
    else if bytes_eq word (codes "--expires") then Some Expires
    else if bytes_eq word (codes "--token-name") then Some TokenName
    else if bytes_eq word (codes "--skew") then Some Skew
    else option_map OfProfile (profile_option word)

-- the option stood, and may stand once; files may repeat
abbrev pub stands_in_stream : StreamGiven → StreamOption → Bool
stands_in_stream given Name = is_some given.name
stands_in_stream given At = is_some given.at
stands_in_stream given Expires = is_some given.signing.expires_in
stands_in_stream given TokenName = is_some given.token_name
stands_in_stream given Skew = is_some given.skew_millis
stands_in_stream given (OfProfile option) = stands given.profile option && not (names_file option)

-- what was given with the value of an option more: `--at` has the seconds of a moment, `--expires` seconds, a natural number of 64 bits, and `--skew`
-- milliseconds, a number of 64 bits
abbrev pub with_stream_option : StreamGiven → StreamOption → List ℕ → Option StreamGiven
with_stream_option given Name value = Some (record given { name = Some value })
with_stream_option given At value = option_map (λ at. record given { at = Some at }) (spelled_moment value)
with_stream_option given Expires value =
    option_map (λ seconds. record given { signing = record given.signing { expires_in = Some seconds } }) (natural_below 18446744073709551616 value)
with_stream_option given TokenName value = Some (record given { token_name = Some value })
with_stream_option given Skew value = option_map (λ millis. record given { skew_millis = Some millis }) (number w64 value)
with_stream_option given (OfProfile option) value = Some (record given { profile = with_profile_option given.profile option value })

-- the options of `stream`
abbrev pub stream_rules : OptionRules StreamGiven StreamOption
stream_rules = record { named = stream_option; stood = stands_in_stream; valued = with_stream_option; flagged = take_flag }

-- the words are over: the command, or the place after the last word, where the name is missing
abbrev pub stream_named : ℕ → StreamGiven → Option (List ℕ) → Command
stream_named place given None = bad_word place
stream_named place given (Some name) =
    stream (record { name = name; at = given.at; signing = given.signing; token_name = given.token_name; skew_millis = given.skew_millis; form = given.form; profile = given.profile })

-- the command of all words
abbrev pub stream_words : ℕ → StreamGiven → Command
stream_words place given = stream_named place given given.name

-- ## `settings`

-- the command of all words
abbrev pub settings_words : ℕ → ProfileWanted → Command
settings_words place profile = show_settings profile

-- ## `check`

-- what the options so far gave
pub record CheckGiven : Type 0 where
  pub name : Option (List ℕ)
  pub profile : ProfileWanted

-- no options
abbrev pub no_check_given : CheckGiven
no_check_given = record { name = None; profile = nothing_wanted }

-- the option that a word names
abbrev pub check_option : List ℕ → Option CheckOption
check_option word = if bytes_eq word (codes "--name") then Some NameOfCheck else option_map OfProfileOfCheck (profile_option word)

-- the option stood
abbrev pub stands_in_check : CheckGiven → CheckOption → Bool
stands_in_check given NameOfCheck = is_some given.name
stands_in_check given (OfProfileOfCheck option) = stands given.profile option

-- what was given with an option of this value more
abbrev pub with_check_option : CheckGiven → CheckOption → List ℕ → CheckGiven
with_check_option given NameOfCheck value = record given { name = Some value }
with_check_option given (OfProfileOfCheck option) value = record given { profile = with_profile_option given.profile option value }

-- the options of `check`, each of which stands once
abbrev pub check_rules : OptionRules CheckGiven CheckOption
check_rules = record { named = check_option; stood = stands_in_check; valued = λ given option value. Some (with_check_option given option value); flagged = no_flag }

-- the words are over: the command, or the place after the last word, where the name is missing
abbrev pub check_command : ℕ → ProfileWanted → Option (List ℕ) → Command
check_command place profile (Some name) = check_record (record { name = name; profile = profile })
check_command place profile None = bad_word place

-- the command of all words
abbrev pub check_words : ℕ → CheckGiven → Command
check_words place given = check_command place given.profile given.name

-- ## `gen`

-- after a seed and a count: they are over
abbrev pub count_given : ℕ → Option ℕ → List (List ℕ) → Command
count_given seed None words = bad_word 3
count_given seed (Some count) [] = generate seed count
count_given seed (Some count) (word ∷ words) = bad_word 4

-- after a seed of 64 bits: the count, at most 100,000
abbrev pub seeded : ℕ → List (List ℕ) → Command
seeded seed [] = bad_word 3
seeded seed (word ∷ words) = count_given seed (natural_below 100001 word) words

-- goes on, where the first word is a seed
abbrev pub after_seed : Option ℕ → List (List ℕ) → Command
after_seed None words = bad_word 2
after_seed (Some seed) words = seeded seed words

-- the words after `gen`: a seed and a count
abbrev pub generator_from : List (List ℕ) → Command
generator_from [] = bad_word 2
generator_from (word ∷ words) = after_seed (natural_below 18446744073709551616 word) words

-- ## `chunk`

-- the words are over: the command, or the place after the last word
abbrev pub chunk_command : ℕ → ChunkGiven → Option ChunkValue → Command
chunk_command place given None = write_chunks (chunk_asked given)
chunk_command place given (Some value) = bad_word place

-- the command of all words
abbrev pub chunk_words : ℕ → ChunkGiven → Command
chunk_words place given = chunk_command place given given.awaited

-- ## Commands

-- the command of words, none of which is bad, or the place of the first bad one
abbrev pub command_from : {G : Type 0} → (ℕ → G → Command) → Result (G × ℕ) ℕ → Command
command_from whole (Ok taken) = whole taken.1 taken.0
command_from whole (Err place) = bad_word place

-- the command that the words spell, or the place of the first bad word
unfoldable pub command : List (List ℕ) → Command
command [] = bad_word 1
command (word ∷ words) =
    if bytes_eq word (codes "stream") then command_from stream_words (options_from stream_rules 2 no_stream_given words)
    else if bytes_eq word (codes "settings") then command_from settings_words (options_from profile_rules 2 nothing_wanted words)
    else if bytes_eq word (codes "check") then command_from check_words (options_from check_rules 2 no_check_given words)
    else if bytes_eq word (codes "gen") then generator_from words
    else if bytes_eq word (codes "chunk") then command_from chunk_words (taken_from chunk_word 2 no_chunk_given words)
    else bad_word 1
