-- The canonical request of AWS Signature Version 4, whose signature goes into headers or into the target's query.
use Rattle.std.specs.Prelude.{ℕ, Bool, not, List, [], ◌∷◌, ◌++◌, codes, filter, map, bytes_eq, Option, Some, None, is_some, unwrap_or, if◌then◌else◌}
use Rattle.std.specs.Cmp.Lexicographic.{slice_cmp}
use Rattle.std.specs.FinMap.{from_entries, keys}
use Rattle.std.specs.Fmt.{decimal}
use Rattle.std.specs.List.{flat_map, join_with_byte, list_any}
use Rattle.std.specs.Ordering.{nat_cmp}
use Rattle.smithy_core.specs.Civil.{stamp}
use Rattle.smithy_core.specs.TextPairs.{first_value, inserted, lower, named_values}
use Rattle.smithy_core.specs.Text.{line}
use Rattle.smithy_http.specs.Target.{Target}
use Rattle.eventstream.specs.Key.{scope}
use Rattle.sigv4.specs.Host.{host_text}
use Rattle.sigv4.specs.Path.{canonical_path}
use Rattle.sigv4.specs.Query.{Pair, decoded, query}
use Rattle.sigv4.specs.Request.{Case}
use Rattle.sigv4.specs.Settings.{Settings, is_query_form}
use Rattle.sigv4.specs.Trim.{trim_all}
use Rattle.sigv4.specs.declared.settings.PayloadChecksumKind.{PayloadChecksumKind}
use Rattle.sigv4.specs.declared.settings.PayloadChecksumKind.TheVariants.{XAmzSha256, NoHeader}
use Rattle.sigv4.specs.declared.settings.SessionTokenMode.{SessionTokenMode}
use Rattle.sigv4.specs.declared.settings.SessionTokenMode.TheVariants.{Include, Exclude}

-- the name of the session token's header
abbrev pub token_header : Settings → List ℕ
token_header settings = unwrap_or settings.session_token_name_override (codes "x-amz-security-token")

-- the name of the session token's parameter
abbrev pub token_parameter : Settings → List ℕ
token_parameter settings = unwrap_or settings.session_token_name_override (codes "X-Amz-Security-Token")

-- the given headers: names in lower case, values trimmed
abbrev pub given_headers : List Pair → List Pair
given_headers headers = map (λ header. (lower header.0, trim_all header.1)) headers

-- one of the headers is `host`
abbrev pub has_host : List Pair → Bool
has_host headers = is_some (first_value (given_headers headers) (codes "host"))

-- the host that is added: the target's, where no header is `host`
abbrev pub added_host : Target → List Pair → Option (List ℕ)
added_host target headers = if has_host headers then None else host_text target

-- the headers with one more, in place of all headers of its name, where there is one
abbrev pub with_optional : List ℕ → Option (List ℕ) → List Pair → List Pair
with_optional name None headers = headers
with_optional name (Some value) headers = inserted headers name value

-- the text, where the payload's text has a header
abbrev pub header_payload : PayloadChecksumKind → List ℕ → Option (List ℕ)
header_payload NoHeader payload = None
header_payload XAmzSha256 payload = Some payload

-- the headers with those that a signature adds: none in query form, and in header form the date, the token and the payload's text
abbrev pub with_signing_headers : Settings → List ℕ → Option (List ℕ) → Option (List ℕ) → List Pair → List Pair
with_signing_headers settings date token payload headers =
    if is_query_form settings then headers
    else with_optional (codes "x-amz-content-sha256") payload (with_optional (token_header settings) token (inserted headers (codes "x-amz-date") date))

-- the given headers, with the host
abbrev pub hosted_headers : Target → List Pair → List Pair
hosted_headers target headers = with_optional (codes "host") (added_host target headers) (given_headers headers)

-- the headers as they can be signed
unfoldable pub canonical_headers : Case → List Pair
canonical_headers c =
    with_signing_headers c.settings (stamp c.at) c.token (header_payload c.settings.payload_checksum_kind c.payload) (hosted_headers c.target c.headers)

-- the name of a token that isn't signed, for services to whose requests it is added after signing
abbrev pub excluded_token : SessionTokenMode → List ℕ → List (List ℕ)
excluded_token Include name = []
excluded_token Exclude name = name ∷ []

-- the name by which the token's header isn't signed: in query form the lower case of the name in use
abbrev pub unsigned_token : Settings → List ℕ
unsigned_token settings = if is_query_form settings then lower (token_parameter settings) else token_header settings

-- the names that aren't signed in query form alone
abbrev pub unsigned_in_query_form : Settings → List (List ℕ)
unsigned_in_query_form settings = if is_query_form settings then codes "x-amz-user-agent" ∷ codes "x-amz-checksum-mode" ∷ [] else []

-- the names of headers that aren't signed: those that the settings exclude, the token's where it isn't signed, and two in query form
abbrev pub unsigned_names : Settings → List (List ℕ)
unsigned_names settings =
    unwrap_or settings.excluded_headers [] ++ excluded_token settings.session_token_mode (unsigned_token settings) ++ unsigned_in_query_form settings

-- whether a header of this name is signed
unfoldable pub is_signed : Settings → List ℕ → Bool
is_signed settings name = not (list_any (bytes_eq name) (unsigned_names settings))

-- the set of the texts of a list, in the order of their bytes
abbrev pub ordered_set : List (List ℕ) → List (List ℕ)
ordered_set texts = keys (from_entries {R = slice_cmp nat_cmp} (map (λ text. (text, tt {0})) texts))

-- the names of the headers that are signed
abbrev pub signed_names : Settings → List Pair → List (List ℕ)
signed_names settings headers = ordered_set (filter (is_signed settings) (map (λ header. header.0) headers))

-- the names of a case's headers that are signed
unfoldable pub names : Case → List (List ℕ)
names c = signed_names c.settings (canonical_headers c)

-- the names, with `;` between
abbrev pub joined_names : List (List ℕ) → List ℕ
joined_names names = join_with_byte 59 names

-- the values of a name in order, with `,` between
abbrev pub joined_values : List Pair → List ℕ → List ℕ
joined_values headers name = join_with_byte 44 (named_values headers name)

-- `name:v1,v2`, as a line
abbrev pub header_line : List Pair → List ℕ → List ℕ
header_line headers name = line (name ++ codes ":" ++ joined_values headers name)

-- the credential: the key id and the scope
unfoldable pub credential : Case → List ℕ
credential c = c.key_id ++ codes "/" ++ scope c.at c.signer.region c.signer.name

-- how many seconds a signed target is good for
abbrev pub expires_text : Option ℕ → List ℕ
expires_text None = []
expires_text (Some seconds) = decimal seconds

-- the parameters of a signature in the target's query that are signed, without the token's
abbrev pub parameters_for : List ℕ → List ℕ → Option ℕ → List ℕ → List Pair
parameters_for credential_text date expires_in names_text =
    (codes "X-Amz-Algorithm", codes "AWS4-HMAC-SHA256") ∷ (codes "X-Amz-Credential", credential_text) ∷ (codes "X-Amz-Date", date)
    ∷ (codes "X-Amz-Expires", expires_text expires_in) ∷ (codes "X-Amz-SignedHeaders", names_text) ∷ []

-- the parameters of a case
unfoldable pub signing_parameters : Case → List Pair
signing_parameters c = parameters_for (credential c) (stamp c.at) c.settings.expires_in (joined_names (names c))

-- the token under a name, where there is one
abbrev pub token_pairs : List ℕ → Option (List ℕ) → List Pair
token_pairs name None = []
token_pairs name (Some token) = (name, token) ∷ []

-- the token, where it is signed
abbrev pub signed_token : SessionTokenMode → Option (List ℕ) → Option (List ℕ)
signed_token Include token = token
signed_token Exclude token = None

-- the pairs that are signed: those of the target's query, and in query form the parameters and the token
unfoldable pub pairs : Case → List Pair
pairs c =
    if is_query_form c.settings
    then decoded c.target ++ signing_parameters c ++ token_pairs (token_parameter c.settings) (signed_token c.settings.session_token_mode c.token)
    else decoded c.target

-- the lines method, path, query, those of the headers, an empty one, the names, and the payload's text with no LF after it
abbrev pub canonical_lines : List ℕ → List ℕ → List ℕ → List ℕ → List ℕ → List ℕ → List ℕ
canonical_lines method path query lines names payload =
    line method ++ line path ++ line query ++ lines ++ line [] ++ line names ++ payload

-- the path
abbrev pub path_of : Case → List ℕ
path_of c = canonical_path c.settings.uri_path_normalization_mode c.settings.percent_encoding_mode c.target.path

-- the canonical text
unfoldable pub canonical : Case → List ℕ
canonical c =
    canonical_lines c.method (path_of c) (query (pairs c)) (flat_map (header_line (canonical_headers c)) (names c)) (joined_names (names c)) c.payload
