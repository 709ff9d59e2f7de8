-- Why a request isn't signed: the first test that fails.
use Rattle.std.specs.Prelude.{◌≡◌, ℕ, ◌+◌, Bool, true, ◌&&◌, not, List, [], ◌∷◌, bytes_eq, codes, if◌then◌else◌, Option, Some, None, option_copied, Result, Ok, Err}
use Rattle.std.specs.List.{list_all, list_any}
use denote.Ref.{Bor}
use Rattle.std.specs.Option.{option_or}
use Rattle.http_header.specs.FieldName.{is_field_name}
use Rattle.http_header.specs.Token.{is_value_byte}
use Rattle.smithy_core.specs.TextPairs.{AreLower, lower}
use Rattle.smithy_core.specs.declared.identity.Identity.{Identity}
use Rattle.smithy_http.specs.Target.{Target}
use Rattle.sigv4.specs.Canonical.{added_host, has_host, header_payload}
use Rattle.sigv4.specs.EventStream.{unsignable}
use Rattle.sigv4.specs.Host.{host_text}
use Rattle.sigv4.specs.Parameters.{is_asterisk, takes_no_more}
use Rattle.sigv4.specs.Query.{Pair}
use Rattle.sigv4.specs.Request.{Case}
use Rattle.sigv4.specs.Settings.{Settings, is_query_form}
use Rattle.sigv4.specs.Signed.{authorization, parameters}
use Rattle.sigv4.specs.declared.error.SigningError.{SigningError}
use Rattle.sigv4.specs.declared.error.SigningError.TheVariants.{InvalidHeaderName, InvalidHeaderValue, InvalidTokenName, InvalidUri, MissingExpires, MissingHost}
use Rattle.sigv4.specs.declared.error.ValuePlace.{ValuePlace}
use Rattle.sigv4.specs.declared.error.ValuePlace.TheVariants.{Header, Host, Token, PayloadHash, Authorization}

-- whether the text may be a header's value (RFC 9110, section 5.5)
abbrev pub is_value : List ℕ → Bool
is_value text = list_all is_value_byte text

-- whether the text may be a header's name (RFC 9110, section 5.1)
abbrev pub is_name : List ℕ → Bool
is_name text = is_field_name text

-- the error, where the test fails
abbrev pub unless : Bool → SigningError → Option SigningError
unless passes error = if passes then None else Some error

-- the target takes no parameters, and the signature goes into these
abbrev pub unfit_target : Settings → Target → Option SigningError
unfit_target settings target = unless (not (is_query_form settings && is_asterisk target)) InvalidUri

-- the text at a place isn't a header's value
abbrev pub unfit_value : ValuePlace → List ℕ → Option SigningError
unfit_value place text = unless (is_value text) (InvalidHeaderValue place)

-- a header's name and then its value is outside its grammar
abbrev pub unfit_header : ℕ → Pair → Option SigningError
unfit_header place header = option_or (unless (is_name header.0) (InvalidHeaderName place)) (unfit_value (Header place) header.1)

-- the first such header, where the first of these has this place
abbrev pub unfit_headers : ℕ → List Pair → Option SigningError
unfit_headers place [] = None
unfit_headers place (header ∷ headers) = option_or (unfit_header place header) (unfit_headers (place + 1) headers)

-- there is no host, or its text isn't a header's value
abbrev pub unfit_host_text : Option (List ℕ) → Option SigningError
unfit_host_text None = Some MissingHost
unfit_host_text (Some host) = unfit_value Host host

-- where no header is `host`, the target has none, or one whose text isn't a header's value
abbrev pub unfit_host : Target → List Pair → Option SigningError
unfit_host target headers = if has_host headers then None else unfit_host_text (host_text target)

-- the names, in lower case, that the token may not have: a signature has its own headers and parameters by these
abbrev pub reserved_names : List (List ℕ)
reserved_names =
    codes "host" ∷ codes "authorization" ∷ codes "x-amz-date" ∷ codes "x-amz-content-sha256" ∷ codes "x-amz-algorithm" ∷ codes "x-amz-credential"
    ∷ codes "x-amz-expires" ∷ codes "x-amz-signedheaders" ∷ codes "x-amz-signature" ∷ []

-- a name that is reserved, whatever its case
abbrev pub is_reserved : List ℕ → Bool
is_reserved name = list_any (bytes_eq (lower name)) reserved_names

-- a header's name in lower case
abbrev pub is_lower_name : List ℕ → Bool
is_lower_name name = is_name name && bytes_eq (lower name) name

-- whether the token may have this name: in query form every one that isn't reserved, in header form a header's name in lower case
abbrev pub is_token_name : Settings → List ℕ → Bool
is_token_name settings name = not (is_reserved name) && (if is_query_form settings then true else is_lower_name name)

-- the name that is given in place of the token's usual one can't be its name
abbrev pub unfit_override : Settings → Option (List ℕ) → Option SigningError
unfit_override settings None = None
unfit_override settings (Some name) = unless (is_token_name settings name) InvalidTokenName

-- the settings give the token a name that it can't have
abbrev pub unfit_token_name : Settings → Option SigningError
unfit_token_name settings = unfit_override settings settings.session_token_name_override

-- the text at a place isn't a header's value, where there is one
abbrev pub unfit_optional : ValuePlace → Option (List ℕ) → Option SigningError
unfit_optional place None = None
unfit_optional place (Some text) = unfit_value place text

-- there is no expiry
abbrev pub unfit_expiry : Option ℕ → Option SigningError
unfit_expiry None = Some MissingExpires
unfit_expiry (Some seconds) = None

-- the first test of the signature's own texts that fails: in query form that of the expiry, in header form those of the token, the payload's text
-- and the authorization
abbrev pub unfit_texts : Case → Option SigningError
unfit_texts c =
    if is_query_form c.settings then unfit_expiry c.settings.expires_in
    else
    option_or (unfit_optional Token c.token)
    (option_or (unfit_optional PayloadHash (header_payload c.settings.payload_checksum_kind c.payload)) (unfit_value Authorization (authorization c)))

-- the first test of a request that fails: its target, its headers in order, the host, the token's name, and the signature's own texts
unfoldable pub unfit : Case → Option SigningError
unfit c =
    option_or (unfit_target c.settings c.target) (option_or (unfit_headers 1 c.headers) (option_or (unfit_host c.target c.headers)
    (option_or (unfit_token_name c.settings) (unfit_texts c))))

-- why `sign` refuses: who signs or when, and then the request
abbrev pub request_refusal : Identity → Case → Option SigningError
request_refusal identity c = option_or (unsignable identity c.at) (unfit c)

-- why the signature isn't put into its request: in query form the target gets longer than 65,534 bytes with it, or is `*`, which `unfit` excludes
unfoldable pub unfit_signed_target : Case → Option SigningError
unfit_signed_target c = unless (not (takes_no_more (parameters c) c.target)) InvalidUri

-- the first test of a request that fails; that of its signed target is the last
abbrev pub unfit_request : Case → Option SigningError
unfit_request c = option_or (unfit c) (unfit_signed_target c)

-- a test answers why it fails, and nothing where it passes
abbrev pub Tests : Option SigningError → Result (Unit {0}) SigningError → Type 0
Tests refused (Ok _) = refused ≡ None
Tests refused (Err error) = refused ≡ Some error

-- ---- the tests in the order of the code, which hashes the body after those that need no hash

-- in query form the expiry, and in header form the token's text
abbrev pub unfit_early_text : Settings → Option (List ℕ) → Option SigningError
unfit_early_text settings token = if is_query_form settings then unfit_expiry settings.expires_in else unfit_optional Token token

-- the first test that fails of those that need no hash
abbrev pub unfit_unhashed : Settings → Target → List Pair → Option (List ℕ) → Option SigningError
unfit_unhashed settings target headers token =
    option_or (unfit_target settings target) (option_or (unfit_headers 1 headers) (option_or (unfit_host target headers)
    (option_or (unfit_token_name settings) (unfit_early_text settings token))))

-- in header form the first test that fails of the payload's text and of the authorization, of which only the credential may be no header's value
abbrev pub unfit_late_texts : Settings → List ℕ → List ℕ → Option SigningError
unfit_late_texts settings payload credential_text =
    if is_query_form settings then None
    else option_or (unfit_optional PayloadHash (header_payload settings.payload_checksum_kind payload)) (unfit_value Authorization credential_text)

-- the host that is added to headers with names in lower case, exactly where no test fails that needs no hash
abbrev pub FindsHost : Settings → Target → List Pair → Option (List ℕ) → Result (Option (Bor (List ℕ))) SigningError → Type 0
FindsHost settings target headers token (Ok host) =
    (unfit_unhashed settings target headers token ≡ None) × (option_copied host ≡ added_host target headers) × AreLower headers
FindsHost settings target headers token (Err error) = unfit_unhashed settings target headers token ≡ Some error
