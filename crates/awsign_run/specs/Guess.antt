-- The service that a host of AWS names: `SERVICE.amazonaws.com` or `SERVICE.REGION.amazonaws.com`, with more labels before or without.
use Rattle.std.specs.Prelude.{◌≡◌, ◌⊎◌, ℕ, Bool, ◌==◌, ◌-◌, not, ◌&&◌, ◌||◌, if◌then◌else◌, List, [], ◌++◌, length, slice_index, codes, bytes_eq, fold, Option, Some, None}
use Rattle.std.specs.Char.{is_ascii_digit, is_ascii_lowercase}
use Rattle.std.specs.List.{after_first, before_first, ends_with, list_all, list_any, slice_split, starts_with}
use Rattle.std.specs.Option.{option_or}
use Rattle.job_text.specs.Lines.{colon}
use Rattle.awsign_words.specs.Words.{OptionValues, has}
use Rattle.awsign_run.specs.Saying.{GainsSome, tool_line}

-- ## The host of a URL

-- `/`, `.` and `-`
abbrev pub slash : ℕ
slash = 47

abbrev pub dot : ℕ
dot = 46

abbrev pub hyphen : ℕ
hyphen = 45

-- `?` and `#`
abbrev pub question_mark : ℕ
question_mark = 63

abbrev pub number_sign : ℕ
number_sign = 35

-- what stands before the first such byte, or all
abbrev pub before_byte : ℕ → List ℕ → List ℕ
before_byte mark text = before_first (λ byte. byte == mark) text

-- what stands behind the first slash, or nothing
abbrev pub behind_slash : List ℕ → List ℕ
behind_slash text = after_first (λ byte. byte == slash) text

-- a text behind the slash that it begins with
abbrev pub behind_leading_slash : List ℕ → List ℕ
behind_leading_slash text = if length (before_byte slash text) == 0 then behind_slash text else []

-- what stands behind the first two slashes of a URL, where nothing stands between them
unfoldable pub behind_two_slashes : List ℕ → List ℕ
behind_two_slashes url = behind_leading_slash (behind_slash url)

-- the host of a URL, with its port: what stands behind two slashes, before the path, the query or the fragment
unfoldable pub url_host : List ℕ → List ℕ
url_host url = before_byte number_sign (before_byte question_mark (before_byte slash (behind_two_slashes url)))

-- ## The service

-- a byte of a service's name: a small letter, a digit or a hyphen
abbrev pub is_service_byte : ℕ → Bool
is_service_byte byte = is_ascii_lowercase byte || is_ascii_digit byte || byte == hyphen

-- the last byte is a digit
abbrev pub ends_in_digit : List ℕ → Bool
ends_in_digit label = is_ascii_digit (slice_index label (length label - 1))

-- the name of a region: it has a digit at its end, and a hyphen, as `eu-west-1`
unfoldable pub is_region : List ℕ → Bool
is_region label = ends_in_digit label && list_any (λ byte. byte == hyphen) label

-- a name of one of the domain's own labels, or of both versions of IP
abbrev pub is_domain_label : List ℕ → Bool
is_domain_label label = bytes_eq label (codes "amazonaws") || bytes_eq label (codes "com") || bytes_eq label (codes "dualstack")

-- the label names a service
unfoldable pub is_service : List ℕ → Bool
is_service label = not (length label == 0) && list_all is_service_byte label && not (is_region label) && not (is_domain_label label)

-- the service that a label names: Amazon S3 also stands before its region, as `s3-eu-west-1`
unfoldable pub service_of_label : List ℕ → Option (List ℕ)
service_of_label label =
    if is_region label && starts_with (λ a b. a == b) label (codes "s3-") then Some (codes "s3")
    else if is_service label then Some label
    else None

-- the last service that labels name
abbrev pub last_service : List (List ℕ) → Option (List ℕ)
last_service labels = fold (λ found label. option_or (service_of_label label) found) None labels

-- a host of AWS
abbrev pub is_aws_host : List ℕ → Bool
is_aws_host host = ends_with (λ a b. a == b) host (codes ".amazonaws.com")

-- the service that a host names, without regard to its port
abbrev pub guessed_service : List ℕ → Option (List ℕ)
guessed_service host =
    let name = before_byte colon host in if is_aws_host name then last_service (slice_split (λ byte. byte == dot) name) else None

-- ## What is printed

-- the service that the host has to name, since no option does
abbrev pub printed_service : OptionValues → List ℕ → Option (List ℕ)
printed_service options host = if has options (codes "--service") || has options (codes "--s3") then None else guessed_service host

-- the line of a guess
abbrev pub service_line : List ℕ → List ℕ
service_line service = tool_line (codes "the service is " ++ (service ++ codes ", by the host; --service NAME says another"))

-- the guess was printed, where there is one; or memory ran out, and nothing is
abbrev pub PrintsService : Option (List ℕ) → Option (List ℕ) → Option (List ℕ) → Type 0
PrintsService None before now = now ≡ before
PrintsService (Some service) before now = GainsSome before now (service_line service) ⊎ (now ≡ before)
