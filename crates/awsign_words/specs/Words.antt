-- The words of `awsign`: a command, and then options, of which each but `-H` stands once, and two operands, a method and a URL.
use Rattle.std.specs.Prelude.{◌≡◌, ℕ, ◌==◌, Bool, true, false, not, ◌&&◌, ◌||◌, if◌then◌else◌, List, [], ◌∷◌, ◌++◌, length, slice_index, codes, bytes_eq, Option, Some, None, is_some, option_copied, Result, Ok, Err}
use Rattle.std.specs.Int.{w64}
use Rattle.std.specs.List.{list_all}
use Rattle.http_header.specs.Token.{is_token_byte}
use Rattle.smithy_core.specs.TextPairs.{last_value, lower}
use Rattle.job_text.specs.ChunkSize.{spelled_size}
use Rattle.job_text.specs.Lines.{header_of_line, texts_of_pair}
use Rattle.job_text.specs.Numbers.{number}
use Rattle.job_text.specs.Pieces.{after_pieces, taken_from}
use Rattle.job_text.specs.declared.words.WordsFault.{WordsFault}
use Rattle.job_text.specs.declared.words.WordsFault.TheVariants.{BadWord, NoMemory}
use Rattle.awsign_text.specs.declared.forms.Form.{Form}
use Rattle.awsign_text.specs.declared.forms.Form.TheVariants.{Curl, Headers, Json, Http, Url}
use Rattle.awsign_words.specs.EventWords.{EventsWanted, events_wanted, events_words}
use Rattle.awsign_words.specs.Expiry.{expiry_named}
use Rattle.awsign_words.specs.RawPath.{encoded_url}
use Rattle.awsign_words.specs.Sources.{is_source_option}
use Rattle.awsign_words.specs.declared.command.Command.{Command}
use Rattle.awsign_words.specs.declared.command.Command.TheVariants.{Sign, Presign, Verify, Settings, Chunk}
use Rattle.awsign_words.specs.declared.words.Asked.{Asked}
use Rattle.awsign_words.specs.declared.words.AskedCommand.{AskedCommand}
use Rattle.awsign_words.specs.declared.words.AskedCommand.TheVariants.{Signing, Verifying, Showing, Chunking, Streaming}
use Rattle.awsign_words.specs.declared.words.Checksum.{Checksum}
use Rattle.awsign_words.specs.declared.words.Checksum.TheVariants.{Crc32, Sha256}
use Rattle.awsign_words.specs.declared.words.GivenWords.{GivenWords}
use Rattle.awsign_words.specs.declared.words.VerifyAsked.{VerifyAsked}

-- the values of options by their words, in order
abbrev pub OptionValues : Type 0
OptionValues = List (List ℕ × List ℕ)

-- what the words of `sign`, `presign` and `chunk` ask for: whether to presign, the values of options, headers, trailers, the method and the URL
pub record SignWanted : Type 0 where
  pub presigns : Bool
  pub options : OptionValues
  pub headers : List (List ℕ × List ℕ)
  pub trailers : List (List ℕ × List ℕ)
  pub method : List ℕ
  pub url : List ℕ

-- what the words of `verify` ask for: the values of options, headers, and a method with a URL, or the request that the input has
pub record VerifyWanted : Type 0 where
  pub options : OptionValues
  pub headers : List (List ℕ × List ℕ)
  pub named : Option (List ℕ × List ℕ)

-- what words ask for
pub data CommandWanted : Type 0 where
  signs : SignWanted → CommandWanted
  verifies : VerifyWanted → CommandWanted
  shows : OptionValues → CommandWanted
  chunks : SignWanted → CommandWanted
  streams : EventsWanted → CommandWanted

-- what the words so far gave, and the option that waits for its value
pub record Given : Type 0 where
  pub command : Command
  pub options : OptionValues
  pub headers : List (List ℕ × List ℕ)
  pub trailers : List (List ℕ × List ℕ)
  pub method : Option (List ℕ)
  pub url : Option (List ℕ)
  pub awaited : Option (List ℕ)

-- no words yet
abbrev pub no_words : Command → Given
no_words command = record { command = command; options = []; headers = []; trailers = []; method = None; url = None; awaited = None }

-- ## Options

-- the command prints a signed request, and does no more
abbrev pub prints : Command → Bool
prints Sign = true
prints Presign = true
prints Verify = false
prints Settings = false
prints Chunk = false

-- the command prints a presigned URL
abbrev pub is_presign : Command → Bool
is_presign Sign = false
is_presign Presign = true
is_presign Verify = false
is_presign Settings = false
is_presign Chunk = false

-- the command writes a body in chunks
abbrev pub is_chunk : Command → Bool
is_chunk Sign = false
is_chunk Presign = false
is_chunk Verify = false
is_chunk Settings = false
is_chunk Chunk = true

-- the command prints a signed request, whatever else it writes
abbrev pub signs_request : Command → Bool
signs_request command = prints command || is_chunk command

-- the command is about a request, and not about settings alone
abbrev pub is_request : Command → Bool
is_request Sign = true
is_request Presign = true
is_request Verify = true
is_request Settings = false
is_request Chunk = true

-- an option that says what is signed, for which service, or when
abbrev pub is_request_option : List ℕ → Bool
is_request_option word = bytes_eq word (codes "--service") || bytes_eq word (codes "--at") || bytes_eq word (codes "-H")

-- an option that gives the payload by a value: a file, its digest, or the payload's text
abbrev pub is_payload_option : List ℕ → Bool
is_payload_option word = bytes_eq word (codes "--data") || bytes_eq word (codes "--payload-hash") || bytes_eq word (codes "--payload-text")

-- an option that says what is printed, and over which payload
abbrev pub is_printing_option : List ℕ → Bool
is_printing_option word = bytes_eq word (codes "--as") || is_payload_option word

-- an option that says which data goes in chunks, where to, and how
abbrev pub is_chunk_option : List ℕ → Bool
is_chunk_option word =
    bytes_eq word (codes "--data") || bytes_eq word (codes "--out") || bytes_eq word (codes "--as") || bytes_eq word (codes "--size")
    || bytes_eq word (codes "--checksum") || bytes_eq word (codes "--trailer")

-- an option whose value is the next word; only a presigned URL has an expiry
abbrev pub takes_value : Command → List ℕ → Bool
takes_value command word =
    is_source_option word || (is_request command && is_request_option word) || (prints command && is_printing_option word) || (is_presign command && bytes_eq word (codes "--expires"))
    || (is_chunk command && is_chunk_option word)

-- an option without a value that says how a request is signed
abbrev pub is_signing_flag : Command → List ℕ → Bool
is_signing_flag command word =
    (prints command && bytes_eq word (codes "--unsigned")) || (signs_request command && bytes_eq word (codes "--encode-path"))

-- an option without a value
abbrev pub is_flag : Command → List ℕ → Bool
is_flag command word =
    is_signing_flag command word || (is_request command && bytes_eq word (codes "--s3")) || (is_presign command && bytes_eq word (codes "--long"))
    || (is_chunk command && bytes_eq word (codes "--signed"))

-- an option of this name stood
abbrev pub has : OptionValues → List ℕ → Bool
has options word = is_some (last_value options word)

-- an option that the command needs didn't stand: a presigned URL has an expiry, and a body in chunks has data and a file
abbrev pub lacks_option : Command → OptionValues → Bool
lacks_option command options =
    (is_presign command && not (has options (codes "--expires")))
    || (is_chunk command && not (has options (codes "--data") && has options (codes "--out")))

-- one of the options that give the payload stood
abbrev pub has_payload : OptionValues → Bool
has_payload options =
    has options (codes "--data") || has options (codes "--payload-hash") || has options (codes "--payload-text") || has options (codes "--unsigned")

-- an option that gives the payload, with a value or without
abbrev pub is_payload : List ℕ → Bool
is_payload word = is_payload_option word || bytes_eq word (codes "--unsigned")

-- the option can't stand any more: it stood, or another one gave the payload
abbrev pub is_spent : OptionValues → List ℕ → Bool
is_spent options word = has options word || (is_payload word && has_payload options)

-- the form that a word names
abbrev pub form_named : List ℕ → Option Form
form_named word =
    if bytes_eq word (codes "curl") then Some Curl
    else if bytes_eq word (codes "headers") then Some Headers
    else if bytes_eq word (codes "json") then Some Json
    else if bytes_eq word (codes "http") then Some Http
    else if bytes_eq word (codes "url") then Some Url
    else None

-- the checksum that a word names
abbrev pub checksum_named : List ℕ → Option Checksum
checksum_named word = if bytes_eq word (codes "crc32") then Some Crc32 else if bytes_eq word (codes "sha256") then Some Sha256 else None

-- whether the value fits its option: a moment is a number of seconds, an expiry a length of time
abbrev pub is_fit : List ℕ → List ℕ → Bool
is_fit option value =
    if bytes_eq option (codes "--at") then is_some (number w64 value)
    else if bytes_eq option (codes "--expires") then is_some (expiry_named value)
    else if bytes_eq option (codes "--as") then is_some (form_named value)
    else if bytes_eq option (codes "--size") then is_some (spelled_size value)
    else if bytes_eq option (codes "--checksum") then is_some (checksum_named value)
    else true

-- ## Words

-- a header, `name: value`; its name goes in lower case
abbrev pub take_header : Given → Option (List ℕ × List ℕ) → Option Given
take_header given None = None
take_header given (Some header) = Some (record given { headers = given.headers ++ (lower header.0, header.1) ∷ []; awaited = None })

-- a trailer, `name: value`; its name goes in lower case
abbrev pub take_trailer : Given → Option (List ℕ × List ℕ) → Option Given
take_trailer given None = None
take_trailer given (Some trailer) = Some (record given { trailers = given.trailers ++ (lower trailer.0, trailer.1) ∷ []; awaited = None })

-- the value of an option
unfoldable pub take_value : Given → List ℕ → List ℕ → Option Given
take_value given option value =
    if bytes_eq option (codes "-H") then take_header given (header_of_line value)
    else if bytes_eq option (codes "--trailer") then take_trailer given (header_of_line value)
    else if is_fit option value then Some (record given { options = given.options ++ (option, value) ∷ []; awaited = None })
    else None

-- the text is a method: a token (RFC 9110, section 9.1)
abbrev pub is_method : List ℕ → Bool
is_method word = not (length word == 0) && list_all is_token_byte word

-- an operand: the method, which is a token, and then the URL
abbrev pub take_operand : Given → Option (List ℕ) → Option (List ℕ) → List ℕ → Option Given
take_operand given None url word = if is_method word then Some (record given { method = Some word }) else None
take_operand given (Some method) None word = Some (record given { url = Some word })
take_operand given (Some method) (Some url) word = None

-- `-`
abbrev pub minus : ℕ
minus = 45

-- the word is no operand: it begins with `-`, or the command takes none
abbrev pub is_no_operand : Command → List ℕ → Bool
is_no_operand command word = slice_index word 0 == minus || not (is_request command)

-- a word that isn't a value: an option that takes one, a flag, or an operand
unfoldable pub take_other : Given → List ℕ → Option Given
take_other given word =
    if is_spent given.options word then None
    else if takes_value given.command word then Some (record given { awaited = Some word })
    else if is_flag given.command word then Some (record given { options = given.options ++ (word, []) ∷ [] })
    else if is_no_operand given.command word then None
    else take_operand given given.method given.url word

-- a word, behind an option that waits or doesn't
abbrev pub take_sign_word : Given → Option (List ℕ) → List ℕ → Option Given
take_sign_word given None word = take_other given word
take_sign_word given (Some option) word = take_value (record given { awaited = None }) option word

-- a word
abbrev pub given_word : Given → List ℕ → Option Given
given_word given word = take_sign_word given given.awaited word

-- the words are over: what is asked for, or the place behind the last word where one is missing
abbrev pub sign_wanted_of : ℕ → Given → Option (List ℕ) → Option (List ℕ) → Option (List ℕ) → Result SignWanted ℕ
sign_wanted_of place given None (Some method) (Some url) =
    Ok (record { presigns = is_presign given.command; options = given.options; headers = given.headers; trailers = given.trailers; method = method; url = url })
sign_wanted_of place given None (Some method) None = Err place
sign_wanted_of place given None None url = Err place
sign_wanted_of place given (Some option) method url = Err place

-- what all words of `sign`, `presign` and `chunk` ask for, where no option lacks
abbrev pub all_words : ℕ → Given → Result SignWanted ℕ
all_words place given =
    if lacks_option given.command given.options then Err place
    else sign_wanted_of place given given.awaited given.method given.url

-- what this method and this URL ask to verify
abbrev pub verify_wanted_of : Given → Option (List ℕ × List ℕ) → VerifyWanted
verify_wanted_of given named = record { options = given.options; headers = given.headers; named = named }

-- the words of `verify` are over: both operands stood, or none, and then no header
abbrev pub verify_words_of : ℕ → Given → Option (List ℕ) → Option (List ℕ) → Option (List ℕ) → Result VerifyWanted ℕ
verify_words_of place given None (Some method) (Some url) = Ok (verify_wanted_of given (Some (method, url)))
verify_words_of place given None (Some method) None = Err place
verify_words_of place given None None url = if length given.headers == 0 then Ok (verify_wanted_of given None) else Err place
verify_words_of place given (Some option) method url = Err place

-- what all words of `verify` ask for
abbrev pub all_verify_words : ℕ → Given → Result VerifyWanted ℕ
all_verify_words place given = verify_words_of place given given.awaited given.method given.url

-- what all words of `settings` ask for: the values of options
abbrev pub all_settings_words : ℕ → Given → Result OptionValues ℕ
all_settings_words place given = if is_some given.awaited then Err place else Ok given.options

-- what the words behind `sign`, `presign` and `chunk` ask for, or the place of the first bad one
unfoldable pub words_behind : Command → List (List ℕ) → Result SignWanted ℕ
words_behind command words = after_pieces all_words (taken_from given_word 2 (no_words command) words)

-- what the words behind `verify` ask for
unfoldable pub verify_words : List (List ℕ) → Result VerifyWanted ℕ
verify_words words = after_pieces all_verify_words (taken_from given_word 2 (no_words Verify) words)

-- what the words behind `settings` ask for
unfoldable pub showing_words : List (List ℕ) → Result OptionValues ℕ
showing_words words = after_pieces all_settings_words (taken_from given_word 2 (no_words Settings) words)

-- to sign what is asked
abbrev pub to_sign : Result SignWanted ℕ → Result CommandWanted ℕ
to_sign (Ok wanted) = Ok (signs wanted)
to_sign (Err place) = Err place

-- to verify what is asked
abbrev pub to_verify : Result VerifyWanted ℕ → Result CommandWanted ℕ
to_verify (Ok wanted) = Ok (verifies wanted)
to_verify (Err place) = Err place

-- to show the settings under these options
abbrev pub to_show : Result OptionValues ℕ → Result CommandWanted ℕ
to_show (Ok options) = Ok (shows options)
to_show (Err place) = Err place

-- to write in chunks what is asked
abbrev pub to_chunk : Result SignWanted ℕ → Result CommandWanted ℕ
to_chunk (Ok wanted) = Ok (chunks wanted)
to_chunk (Err place) = Err place

-- to do with events what is asked
abbrev pub to_stream : Result EventsWanted ℕ → Result CommandWanted ℕ
to_stream (Ok wanted) = Ok (streams wanted)
to_stream (Err place) = Err place

-- what the words ask for: a command, and what stands behind it
abbrev pub command_words : List (List ℕ) → Result CommandWanted ℕ
command_words [] = Err 1
command_words (word ∷ words) =
    if bytes_eq word (codes "sign") then to_sign (words_behind Sign words)
    else if bytes_eq word (codes "presign") then to_sign (words_behind Presign words)
    else if bytes_eq word (codes "verify") then to_verify (verify_words words)
    else if bytes_eq word (codes "settings") then to_show (showing_words words)
    else if bytes_eq word (codes "chunk") then to_chunk (words_behind Chunk words)
    else if bytes_eq word (codes "events") then to_stream (events_words words)
    else Err 1

-- ## Answers

-- what contracts see of what the words gave
abbrev pub given_words : GivenWords → Given
given_words given = record {
  command = given.command;
  options = given.options;
  headers = given.headers;
  trailers = given.trailers;
  method = option_copied given.method;
  url = option_copied given.url;
  awaited = option_copied given.awaited;
}

-- what contracts see of what is asked
abbrev pub sign_wanted : Asked → SignWanted
sign_wanted asked = record {
  presigns = asked.presigns;
  options = asked.options;
  headers = asked.headers;
  trailers = asked.trailers;
  method = asked.method.now;
  url = asked.url.now;
}

-- the URL that goes out: its path encoded, where an option asks for that
abbrev pub asked_url : SignWanted → List ℕ
asked_url wanted = if has wanted.options (codes "--encode-path") then encoded_url wanted.url else wanted.url

-- this is what is asked, or the word at this place is bad; or memory ran out
abbrev pub ReadsAsked : Result SignWanted ℕ → Result Asked WordsFault → Type 0
ReadsAsked read (Ok asked) = read ≡ Ok (sign_wanted asked)
ReadsAsked read (Err (BadWord place)) = read ≡ Err place
ReadsAsked read (Err NoMemory) = Unit {0}

-- what contracts see of what is to be verified
abbrev pub verify_wanted : VerifyAsked → VerifyWanted
verify_wanted asked = record { options = asked.options; headers = asked.headers; named = texts_of_pair asked.named }

-- this is what is to be verified, or the word at this place is bad; or memory ran out
abbrev pub ReadsVerify : Result VerifyWanted ℕ → Result VerifyAsked WordsFault → Type 0
ReadsVerify read (Ok asked) = read ≡ Ok (verify_wanted asked)
ReadsVerify read (Err (BadWord place)) = read ≡ Err place
ReadsVerify read (Err NoMemory) = Unit {0}

-- these are the values of options, or the word at this place is bad; or memory ran out
abbrev pub ReadsOptions : Result OptionValues ℕ → Result OptionValues WordsFault → Type 0
ReadsOptions read (Ok options) = read ≡ Ok options
ReadsOptions read (Err (BadWord place)) = read ≡ Err place
ReadsOptions read (Err NoMemory) = Unit {0}

-- what contracts see of what words ask for
abbrev pub command_wanted : AskedCommand → CommandWanted
command_wanted (Signing asked) = signs (sign_wanted asked)
command_wanted (Verifying asked) = verifies (verify_wanted asked)
command_wanted (Showing options) = shows options
command_wanted (Chunking asked) = chunks (sign_wanted asked)
command_wanted (Streaming asked) = streams (events_wanted asked)

-- this is what words ask for, or the word at this place is bad; or memory ran out
abbrev pub ReadsCommand : Result CommandWanted ℕ → Result AskedCommand WordsFault → Type 0
ReadsCommand read (Ok asked) = read ≡ Ok (command_wanted asked)
ReadsCommand read (Err (BadWord place)) = read ≡ Err place
ReadsCommand read (Err NoMemory) = Unit {0}
