-- What is said of how a run ended.
use Rattle.std.specs.Prelude.{◌≡◌, ◌⊎◌, ℕ, ◌-◌, Bool, true, false, List, [], ◌∷◌, ◌++◌, codes, bytes_eq, Option, Some, None, slice_get, string_bytes}
use Rattle.std.specs.Fmt.{decimal}
use Rattle.smithy_core.specs.Outside.{Gains, GainsProperPrefix}
use Rattle.smithy_core.specs.Text.{line}
use Rattle.env_config.specs.declared.parse_fault.EnvConfigParseError.{EnvConfigParseError}
use Rattle.sigv4.specs.Error.{error_text}
use Rattle.awsign_run.specs.declared.fault.Fault.{Fault}
use Rattle.awsign_run.specs.declared.fault.Fault.TheVariants.{Profile, MissingKey, MissingSecret, MissingRegion, EmptyRegion, MissingService, EmptyService, LongExpiry, AlreadyPresigned, Signing, NoMemory as FaultNoMemory}
use Rattle.awsign_run.specs.declared.status.Status.{Status}
use Rattle.awsign_run.specs.declared.status.Status.TheVariants.{Done, BadWord, CouldNotReadFile, DataFault, Refused, OutputFault, NoMemory}

-- a line of the tool
abbrev pub tool_line : List ℕ → List ℕ
tool_line text = line (codes "awsign: " ++ text)

-- a bad word is quoted; where there is none at its place one is missing
abbrev pub word_text : ℕ → Option (List ℕ) → List ℕ
word_text place (Some word) = codes "word " ++ (decimal place ++ (codes " isn't understood here: " ++ (word ++ codes "; awsign COMMAND --help lists the words")))
word_text place None = codes "a word is missing at the end; awsign COMMAND --help lists the words"

-- a faulty line of a profile file
abbrev pub faulty_text : EnvConfigParseError → List ℕ
faulty_text error = string_bytes error.path ++ (codes ", line " ++ (decimal error.line_number ++ (codes ": " ++ string_bytes error.message)))

-- there is no key: what to do, and the paths of the files that were looked at
abbrev pub no_key_text : List ℕ → List ℕ → List ℕ
no_key_text profile files =
    codes "no key: set AWS_ACCESS_KEY_ID and AWS_SECRET_ACCESS_KEY, which don't count beside --profile, or give the profile '"
    ++ (profile ++ (codes "' aws_access_key_id and aws_secret_access_key; looked in " ++ files))

-- there is no region: what to do
abbrev pub no_region_text : List ℕ → List ℕ
no_region_text profile =
    codes "no region: say --region, set AWS_REGION, or give the profile '" ++ (profile ++ codes "' a region; awsign settings says where it is looked for")

-- why nothing is signed, and what to do
abbrev pub fault_reason : Fault → List ℕ
fault_reason (Profile error) = faulty_text error
fault_reason (MissingKey profile files) = no_key_text (string_bytes profile) (string_bytes files)
fault_reason MissingSecret = codes "AWS_ACCESS_KEY_ID is set and AWS_SECRET_ACCESS_KEY isn't: set both, or neither"
fault_reason (MissingRegion profile) = no_region_text (string_bytes profile)
fault_reason EmptyRegion = codes "the region is empty: give --region a name, or leave it out"
fault_reason MissingService = codes "no service, and the host names none: say --service NAME, or --s3"
fault_reason EmptyService = codes "the service's name is empty: give --service a name, or leave it out"
fault_reason LongExpiry = codes "the URL would be good for over 604800 seconds, which AWS refuses; --long makes it all the same"
fault_reason AlreadyPresigned = codes "the URL is presigned already: leave out its signature's parameters"
fault_reason (Signing error) = codes "the request can't be signed: " ++ error_text error
fault_reason FaultNoMemory = codes "no memory"

-- the word behind the first that is this one, among words before which it stood or didn't
abbrev pub behind_word : List ℕ → Bool → List (List ℕ) → Option (List ℕ)
behind_word name stood [] = None
behind_word name true (word ∷ words) = Some word
behind_word name false (word ∷ words) = behind_word name (bytes_eq word name) words

-- data that couldn't be read, and where it is
abbrev pub unread_data_text : Option (List ℕ) → List ℕ
unread_data_text (Some path) = codes "could not read the file that --data names: " ++ path
unread_data_text None = codes "could not read the file that --data names"

-- the line of how a run ended
abbrev pub status_line : List (List ℕ) → Status → List ℕ
status_line words Done = []
status_line words (BadWord place) = tool_line (word_text place (slice_get words (place - 1)))
status_line words (CouldNotReadFile path) = tool_line (codes "could not read the profile file " ++ string_bytes path)
status_line words DataFault = tool_line (unread_data_text (behind_word (codes "--data") false words))
status_line words (Refused fault) = tool_line (fault_reason fault)
status_line words OutputFault = tool_line (codes "the output failed")
status_line words NoMemory = tool_line (codes "no memory")

-- all of a line was gained, or a part of it
abbrev pub GainsSome : Option (List ℕ) → Option (List ℕ) → List ℕ → Type 0
GainsSome before now text = Gains before now text ⊎ GainsProperPrefix before now text

-- what was said: nothing where all was printed, and else the line, or that memory ran out
abbrev pub Says : List (List ℕ) → Status → Option (List ℕ) → Option (List ℕ) → Type 0
Says words Done before now = now ≡ before
Says words status before now = GainsSome before now (status_line words status) ⊎ GainsSome before now (tool_line (codes "no memory"))
