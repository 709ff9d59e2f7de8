-- What `awsign` prints of the request that words ask for.
use Rattle.std.specs.Prelude.{◌≡◌, ◌⊎◌, ◌≤◌, ◌-◌, ◌^◌, ℕ, Bool, true, false, not, nat_lt, ◌&&◌, ◌||◌, if◌then◌else◌, List, [], codes, length, bytes_eq, Option, Some, None, unwrap_or, Result, Ok, Err, IsErrAnd, string_bytes}
use Rattle.std.specs.Global.{Vec}
use Rattle.std.specs.Option.{option_and_then, option_or}
use Rattle.hex.specs.Hex.{encode_lower}
use Rattle.sha2.specs.Sha256.{sha256}
use Rattle.http_uri.specs.declared.uri.Uri.{Uri}
use Rattle.smithy_core.specs.Civil.{is_in_years}
use Rattle.smithy_core.specs.Moment.{Instant}
use Rattle.smithy_core.specs.Outside.{IsAtEnd, IsCutOf, RoseOrStands}
use Rattle.smithy_core.specs.TextPairs.{last_value}
use Rattle.smithy_core.specs.declared.request.HttpRequest.{HttpRequest}
use Rattle.smithy_http.specs.QueryWriter.{SpellsNoTarget, SpellsTarget}
use Rattle.smithy_http.specs.Target.{Target, target_of}
use Rattle.env_config.specs.Sections.{FileText}
use Rattle.sigv4.specs.Host.{host_text}
use Rattle.sigv4.specs.Refusal.{unfit, unfit_signed_target}
use Rattle.sigv4.specs.Request.{Case}
use Rattle.sigv4.specs.Settings.{Settings, default_settings, s3_settings}
use Rattle.sigv4.specs.Signed.{signature_of, signed_headers, signed_target}
use Rattle.sigv4.specs.declared.error.SigningError.{SigningError}
use Rattle.sigv4.specs.declared.error.SigningError.TheVariants.{InvalidUri, MomentOutOfRange}
use Rattle.sigv4.specs.declared.settings.SignatureLocation.TheVariants.{QueryParams}
use Rattle.awsign_text.specs.Forms.{text_in_form}
use Rattle.awsign_text.specs.declared.forms.Form.{Form}
use Rattle.awsign_text.specs.declared.forms.Form.TheVariants.{Curl, Url}
use Rattle.aws_signing.specs.KeyHolder.{held_key}
use Rattle.aws_signing.specs.Presigning.{IsPresignedAlready}
use Rattle.aws_signing.specs.SigningBy.{SigningState}
use Rattle.awsign_run.specs.Chosen.{SignRefusal, SignsFor, asked_profile, long_expiry, presigned_already, refusal_of, signer_by, unsigned}
use Rattle.awsign_run.specs.Guess.{url_host}
use Rattle.awsign_run.specs.declared.chosen.Chosen.{Chosen}
use Rattle.awsign_run.specs.declared.signing.SignedRequest.{SignedRequest}
use Rattle.awsign_words.specs.Expiry.{expiry_named}
use Rattle.awsign_words.specs.Words.{OptionValues, SignWanted, form_named, has}
use Rattle.awsign_run.specs.declared.fault.Fault.{Fault}
use Rattle.awsign_run.specs.declared.fault.Fault.TheVariants.{NoMemory}

-- ## What is signed

-- the settings are those of Amazon S3
abbrev pub is_s3 : OptionValues → List ℕ → Bool
is_s3 options service = has options (codes "--s3") || bytes_eq service (codes "s3")

-- for how many seconds a presigned URL is good
abbrev pub expiry : OptionValues → Option ℕ
expiry options = option_and_then expiry_named (last_value options (codes "--expires"))

-- a presigned URL would be good for more than seven days, which no option asks for
abbrev pub is_long : OptionValues → Bool
is_long options = nat_lt 604800 (unwrap_or (expiry options) 0) && not (has options (codes "--long"))

-- the settings of a service, with the signature in headers
abbrev pub usual_settings : Bool → Settings
usual_settings s3 = if s3 then s3_settings else default_settings

-- the settings that words ask for: where a URL is presigned, the signature goes into its query
abbrev pub asked_settings : SignWanted → Bool → Settings
asked_settings sign_wanted s3 =
    if sign_wanted.presigns
    then record (usual_settings s3) { signature_location = QueryParams; expires_in = expiry sign_wanted.options }
    else usual_settings s3

-- the payload's text that no option gives: S3 signs none in a presigned URL, and else it is that of no bytes
abbrev pub default_payload : SignWanted → Bool → List ℕ
default_payload sign_wanted s3 =
    if has sign_wanted.options (codes "--unsigned") || (sign_wanted.presigns && s3) then codes "UNSIGNED-PAYLOAD" else encode_lower (sha256 [])

-- the payload's text: the digest or the text that an option gives, or the digest of the data
abbrev pub asked_payload : SignWanted → Bool → Option (List ℕ) → List ℕ
asked_payload sign_wanted s3 digest =
    unwrap_or (option_or (option_or (last_value sign_wanted.options (codes "--payload-hash")) (last_value sign_wanted.options (codes "--payload-text"))) digest)
    (default_payload sign_wanted s3)

-- the request that is signed, for what the URL spells
abbrev pub asked_case : SignWanted → SignsFor → List ℕ → Instant → Target → Case
asked_case sign_wanted signer payload at target = record {
  method = sign_wanted.method;
  target = target;
  headers = sign_wanted.headers;
  payload = payload;
  settings = asked_settings sign_wanted (is_s3 sign_wanted.options signer.service);
  key_id = signer.key.id;
  token = signer.key.token;
  signer = record { secret = signer.key.secret; region = signer.region; name = signer.service };
  at = at;
}

-- why it isn't signed: the moment lies outside the years 0 to 9999, the request is refused, or the signed URL would be too long
abbrev pub asked_refusal : Case → Option SigningError
asked_refusal c = option_or (option_or (if is_in_years c.at then None else Some (MomentOutOfRange c.at)) (unfit c)) (unfit_signed_target c)

-- why a request to this URL isn't signed
abbrev pub RefusesUrl : List ℕ → (Target → Case) → Fault → Type 0
RefusesUrl url case fault =
    (((uri : Uri) × (error : SigningError) × SpellsTarget url uri × (asked_refusal (case (target_of uri)) ≡ Some error) × (refusal_of fault ≡ unsigned error))
    ⊎ (SpellsNoTarget url × (refusal_of fault ≡ unsigned InvalidUri))) ⊎ (fault ≡ NoMemory)

-- ## What is printed

-- the form: the one that an option names, and else a config of curl, or the URL where one is presigned
abbrev pub asked_form : SignWanted → Form
asked_form sign_wanted = unwrap_or (option_and_then form_named (last_value sign_wanted.options (codes "--as"))) (if sign_wanted.presigns then Url else Curl)

-- the signed request of a case, whose target was this one, in the form that is asked for
abbrev pub printed : SignWanted → Target → Case → List ℕ
printed sign_wanted target c =
    text_in_form (asked_form sign_wanted) sign_wanted.method (signed_target c sign_wanted.url) (signed_headers c) (host_text target)
    (last_value sign_wanted.options (codes "--data"))

-- the signed request, for what the URL spells, as it is printed; or why it isn't signed
abbrev pub SignsPrinted : SignWanted → (Target → Case) → Result (Vec ℕ) Fault → Type 0
SignsPrinted sign_wanted case (Ok text) =
    (uri : Uri) × SpellsTarget sign_wanted.url uri × (asked_refusal (case (target_of uri)) ≡ None) × (text.items ≡ printed sign_wanted (target_of uri) (case (target_of uri)))
SignsPrinted sign_wanted case (Err fault) = RefusesUrl sign_wanted.url case fault

-- the text of the request that somebody signs with this digest of the data at this moment, or why there is none
abbrev pub PrintsFor : SignWanted → Result SignsFor SignRefusal → Option (List ℕ) → Instant → Result (Vec ℕ) Fault → Type 0
PrintsFor sign_wanted (Ok signer) digest at result =
    SignsPrinted sign_wanted (asked_case sign_wanted signer (asked_payload sign_wanted (is_s3 sign_wanted.options signer.service) digest) at) result
PrintsFor sign_wanted (Err refusal) digest at (Ok text) = ⊥
PrintsFor sign_wanted (Err refusal) digest at (Err fault) = (refusal_of fault ≡ refusal) ⊎ (fault ≡ NoMemory)

-- who signs, by the texts of profile files and variables, unless a URL would be good for too long
abbrev pub asked_signer : SignWanted → List (List ℕ × List ℕ) → List FileText → Result SignsFor SignRefusal
asked_signer sign_wanted env files =
    if is_long sign_wanted.options then Err long_expiry
    else signer_by sign_wanted.options (url_host sign_wanted.url) env (asked_profile sign_wanted.options env) files

-- the text that words, variables, the texts of profile files, the digest of the data and a moment give, whatever the URL has, or why there is none
abbrev pub PrintsAnew : SignWanted → List (List ℕ × List ℕ) → List FileText → Option (List ℕ) → Instant → Result (Vec ℕ) Fault → Type 0
PrintsAnew sign_wanted env files digest at result = PrintsFor sign_wanted (asked_signer sign_wanted env files) digest at result

-- a source gave 2^64 - 1 bytes and more, and no end
abbrev pub GivesNoEnd : Option (List ℕ) → Option (List ℕ) → Type 0
GivesNoEnd before now = (bytes : List ℕ) × IsCutOf before bytes now × (2 ^ 64 - 1 ≤ length bytes)

-- the data couldn't be read: its source counted a fault, or gave no end
abbrev pub FailsReading : ℕ → ℕ → Option (List ℕ) → Option (List ℕ) → Type 0
FailsReading faults faults_now before now = RoseOrStands faults faults_now ⊎ GivesNoEnd before now

-- a URL is to be presigned that is presigned already
abbrev pub PresignsAgain : SignWanted → Type 0
PresignsAgain sign_wanted = (sign_wanted.presigns ≡ true) × IsPresignedAlready sign_wanted.url

-- whether one is
abbrev pub DecidesAgain : SignWanted → Bool → Type 0
DecidesAgain sign_wanted true = PresignsAgain sign_wanted
DecidesAgain sign_wanted false = PresignsAgain sign_wanted → ⊥

-- that text, where no URL is to be presigned that is so already; or that one is, or memory ran out
abbrev pub PrintsSigned : SignWanted → List (List ℕ × List ℕ) → List FileText → Option (List ℕ) → Instant → Result (Vec ℕ) Fault → Type 0
PrintsSigned sign_wanted env files digest at result =
    (((PresignsAgain sign_wanted → ⊥) × PrintsAnew sign_wanted env files digest at result)
    ⊎ (PresignsAgain sign_wanted × IsErrAnd result (λ fault. refusal_of fault ≡ presigned_already)))
    ⊎ IsErrAnd result (λ fault. fault ≡ NoMemory)

-- the digest of all that a source had left
abbrev pub DigestsAll : Option (List ℕ) → Option (List ℕ) → List ℕ → Type 0
DigestsAll before now digest = (bytes : List ℕ) × IsCutOf before bytes now × IsAtEnd now × (digest ≡ encode_lower (sha256 bytes))

-- the request of these words before it is signed
pub record IsAsked (sign_wanted : SignWanted) (request : HttpRequest) : Type 0 where
  pub method : string_bytes request.method ≡ sign_wanted.method
  pub target : string_bytes request.target ≡ sign_wanted.url
  pub headers : request.headers ≡ sign_wanted.headers

-- who is chosen, as a signer by these settings, of which no key was derived yet
abbrev pub chosen_signer : Chosen → Settings → SigningState
chosen_signer chosen settings = record { holder = held_key chosen.credentials (string_bytes chosen.region) (string_bytes chosen.service); settings = settings }

-- the signed request of this method and URL, for what the URL spells, or why it isn't signed
abbrev pub SignsUrl : List ℕ → List ℕ → (Target → Case) → Result SignedRequest Fault → Type 0
SignsUrl method url case (Ok signed) =
    SpellsTarget url signed.uri × (asked_refusal (case (target_of signed.uri)) ≡ None)
    × (string_bytes signed.request.method ≡ method)
    × (string_bytes signed.request.target ≡ signed_target (case (target_of signed.uri)) url)
    × (signed.request.headers ≡ signed_headers (case (target_of signed.uri)))
    × (string_bytes signed.signature ≡ signature_of (case (target_of signed.uri)))
SignsUrl method url case (Err fault) = RefusesUrl url case fault

-- the same of the words' own
abbrev pub SignsAsked : SignWanted → (Target → Case) → Result SignedRequest Fault → Type 0
SignsAsked sign_wanted case result = SignsUrl sign_wanted.method sign_wanted.url case result

-- the text of a signed request in the form that is asked for, with this file as its body
abbrev pub IsPrinted : SignWanted → SignedRequest → Option (List ℕ) → List ℕ → Type 0
IsPrinted sign_wanted signed file text =
    text ≡ text_in_form (asked_form sign_wanted) (string_bytes signed.request.method) (string_bytes signed.request.target) signed.request.headers
    (host_text (target_of signed.uri)) file
