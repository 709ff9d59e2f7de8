-- Whether a failed attempt may be made again.
use Rattle.std.specs.Prelude.{◌≡◌, ℕ, ◌<◌, ◌^◌, Bool, false, ◌&&◌, List, [], ◌∷◌, Option, Some, None, String, Vec, if◌then◌else◌, bytes_eq, codes, map, nat_lt, option_and_then, option_map, string_bytes, unsigned_abs}
use Rattle.std.specs.List.{list_any}
use Rattle.std.specs.Option.{option_map_or}
use Rattle.std.specs.declared.alloc.Global.{Global}
use Rattle.std.specs.Str.Parse.{IsNumeral, digits_value, without_leading_plus}
use Rattle.smithy_core.specs.TextPairs.{first_value}
use Rattle.smithy_core.specs.declared.error_metadata.ErrorMetadata.{ErrorMetadata}
use Rattle.smithy_core.specs.declared.response.HttpResponse.{HttpResponse}
use Rattle.aws_intercept.specs.declared.classify.RetryAction.{RetryAction}
use Rattle.aws_intercept.specs.declared.classify.RetryAction.TheVariants.{NoActionIndicated, Retryable}
use Rattle.aws_intercept.specs.declared.classify.RetryKind.{RetryKind}
use Rattle.aws_intercept.specs.declared.classify.RetryKind.TheVariants.{ServerError, ThrottlingError, TransientError}

-- ## Codes

-- the codes of a service that has too many requests
unfoldable pub throttling_codes : List (List ℕ)
throttling_codes =
    codes "Throttling" ∷ codes "ThrottlingException" ∷ codes "ThrottledException" ∷ codes "RequestThrottledException"
    ∷ codes "TooManyRequestsException" ∷ codes "ProvisionedThroughputExceededException" ∷ codes "TransactionInProgressException"
    ∷ codes "RequestLimitExceeded" ∷ codes "BandwidthLimitExceeded" ∷ codes "LimitExceededException" ∷ codes "RequestThrottled"
    ∷ codes "SlowDown" ∷ codes "PriorRequestNotComplete" ∷ codes "EC2ThrottledException" ∷ []

-- the codes of transient errors
unfoldable pub transient_codes : List (List ℕ)
transient_codes = codes "RequestTimeout" ∷ codes "RequestTimeoutException" ∷ []

-- the codes of errors that a skew of the clocks can bring about
unfoldable pub skew_codes : List (List ℕ)
skew_codes =
    codes "InvalidSignatureException" ∷ codes "SignatureDoesNotMatch" ∷ codes "AuthFailure" ∷ codes "RequestTimeTooSkewed"
    ∷ codes "AccessDeniedException" ∷ []

-- whether the code is one of these
abbrev pub is_listed : List (List ℕ) → List ℕ → Bool
is_listed listed code = list_any (λ known. bytes_eq known code) listed

-- the codes that are set, or else those of transient errors
abbrev pub codes_or_transient : Option (Vec (String Global) Global) → List (List ℕ)
codes_or_transient set = option_map_or (λ listed. map string_bytes listed.items) set transient_codes

-- ## Answers

-- the code of an error, where there is one
abbrev pub code_of : Option ErrorMetadata → Option (List ℕ)
code_of error = option_and_then (λ e. option_map string_bytes e.code) error

-- the kind of the error with this code, where these are the codes of transient errors
abbrev pub kind_of : List (List ℕ) → Option (List ℕ) → Option RetryKind
kind_of transient None = None
kind_of transient (Some code) =
    if is_listed throttling_codes code then Some ThrottlingError
    else if is_listed transient code then Some TransientError else None

-- what the response says of the delay
abbrev pub delay_text : Option HttpResponse → Option (List ℕ)
delay_text response = option_and_then (λ r. first_value r.headers (codes "x-amz-retry-after")) response

-- the text is a number of 64 bits in decimal digits, with a plus before them or not
abbrev pub IsDelayText : List ℕ → Type 0
IsDelayText text = IsNumeral 10 (without_leading_plus text) × (digits_value 10 (without_leading_plus text) < 2 ^ 64)

-- the delay is the number that the text writes, or there is none
abbrev pub IsDelay : Option (List ℕ) → Option ℕ → Type 0
IsDelay None delay = delay ≡ None
IsDelay (Some text) None = ¬ (IsDelayText text)
IsDelay (Some text) (Some delay) = IsDelayText text × (delay ≡ digits_value 10 (without_leading_plus text))

-- retryable by this kind and this delay, or nothing
abbrev pub Acts : Option RetryKind → Option (List ℕ) → RetryAction → Type 0
Acts None text action = action ≡ NoActionIndicated
Acts (Some kind) text NoActionIndicated = ⊥
Acts (Some kind) text (Retryable found delay) = (found ≡ kind) × IsDelay text delay

-- the kind that was said before without a delay with the delay of the text, or nothing
abbrev pub Delays : RetryAction → Option (List ℕ) → RetryAction → Type 0
Delays NoActionIndicated text action = action ≡ NoActionIndicated
Delays (Retryable kind (Some before)) text action = action ≡ NoActionIndicated
Delays (Retryable kind None) text NoActionIndicated = IsDelay text None
Delays (Retryable kind None) text (Retryable found None) = ⊥
Delays (Retryable kind None) text (Retryable found (Some delay)) = (found ≡ kind) × IsDelay text (Some delay)

-- as the code says, or else as was said before
abbrev pub ActsAgain : Option RetryKind → RetryAction → Option (List ℕ) → RetryAction → Type 0
ActsAgain None previous text action = Delays previous text action
ActsAgain (Some kind) previous text action = Acts (Some kind) text action

-- the most milliseconds by which the clocks may differ: 4 minutes
abbrev pub most_skew : ℕ
most_skew = 240000

-- whether the response's skew passes 4 minutes in either direction
abbrev pub is_skewed : Option HttpResponse → Bool
is_skewed response = option_map_or (λ skew. nat_lt most_skew (unsigned_abs skew)) (option_and_then (λ r. r.skew) response) false

-- whether a skew can bring about an error with this code
abbrev pub is_skew_error : Option (List ℕ) → Bool
is_skew_error code = option_map_or (is_listed skew_codes) code false

-- retryable as an error of the service, where the clocks differ and the code is one of skew
abbrev pub skew_action : Option HttpResponse → Option (List ℕ) → RetryAction
skew_action response code = if is_skewed response && is_skew_error code then Retryable ServerError None else NoActionIndicated
