-- What a request is signed with, as the endpoint, the inputs and the config say.
use Rattle.std.specs.Prelude.{◌≡◌, ℕ, Bool, not, List, [], Option, Some, None, option_copied, option_map, string_bytes, unwrap_or, if◌then◌else◌}
use Rattle.std.specs.Option.{option_or}
use Rattle.sha2.specs.Sha256.{sha256}
use Rattle.hex.specs.Hex.{encode_lower}
use Rattle.smithy_core.specs.Document.{Data, data_of}
use Rattle.smithy_core.specs.Identity.{secret_of}
use Rattle.smithy_core.specs.Moment.{Instant}
use Rattle.smithy_core.specs.declared.identity.Identity.{Identity}
use Rattle.smithy_core.specs.declared.request.HttpRequest.{HttpRequest}
use Rattle.smithy_http.specs.Target.{Target}
use Rattle.sigv4.specs.Body.{payload_text}
use Rattle.sigv4.specs.Request.{Case, key_id_of, token_of}
use Rattle.sigv4.specs.Settings.{Settings, default_exclusions}
use Rattle.sigv4.specs.declared.modes.PercentEncodingMode.TheVariants.{Double, Single}
use Rattle.sigv4.specs.declared.modes.UriPathNormalizationMode.TheVariants.{Enabled, Disabled}
use Rattle.sigv4.specs.declared.settings.PayloadChecksumKind.TheVariants.{XAmzSha256, NoHeader}
use Rattle.sigv4.specs.declared.settings.SessionTokenMode.TheVariants.{Include, Exclude}
use Rattle.sigv4.specs.declared.settings.SignatureLocation.{SignatureLocation}
use Rattle.sigv4.specs.declared.settings.SignatureLocation.TheVariants.{Headers, QueryParams}
use Rattle.aws_auth.specs.Endpoint.{Fields, fields_of}
use Rattle.aws_auth.specs.Moment.{signing_moment}
use Rattle.aws_auth.specs.Options.{default_config}
use Rattle.aws_auth.specs.Payload.{signed_in_place}
use Rattle.aws_auth.specs.declared.inputs.SigningInputs.{SigningInputs}
use Rattle.aws_auth.specs.declared.options.HttpSignatureType.{HttpSignatureType}
use Rattle.aws_auth.specs.declared.options.HttpSignatureType.TheVariants.{HttpRequestHeaders, HttpRequestQueryParams}
use Rattle.aws_auth.specs.declared.options.SigV4OperationSigningConfig.{SigV4OperationSigningConfig}
use Rattle.aws_auth.specs.declared.options.SigningOptions.{SigningOptions}
use Rattle.aws_auth.specs.declared.payload.PayloadSigningOverride.{PayloadSigningOverride}

-- the config, and the default one where none is given, which is refused
abbrev pub given_config : SigningInputs → SigV4OperationSigningConfig
given_config inputs = unwrap_or (option_copied inputs.config) default_config

-- the endpoint, where one is given, as data
abbrev pub given_endpoint : SigningInputs → Option Data
given_endpoint inputs = option_map data_of (option_copied inputs.endpoint)

-- the region: the endpoint's, or else that of the inputs, or else the config's
abbrev pub chosen_region : Fields → SigningInputs → SigV4OperationSigningConfig → Option (List ℕ)
chosen_region fields inputs config = option_or fields.region (option_or (option_copied inputs.region) config.region)

-- the name of the service, likewise
abbrev pub chosen_name : Fields → SigningInputs → SigV4OperationSigningConfig → Option (List ℕ)
chosen_name fields inputs config = option_or fields.name (option_or (option_copied inputs.name) config.name)

-- what is signed in place of the body: that of the inputs, or else the config's
abbrev pub chosen_payload : SigningInputs → SigV4OperationSigningConfig → Option PayloadSigningOverride
chosen_payload inputs config = option_or (option_copied inputs.payload) config.signing_options.payload_override

-- the payload's text: that of what is signed in place of the body, or else the digest of the body
abbrev pub chosen_text : Option PayloadSigningOverride → List ℕ → List ℕ
chosen_text None body = encode_lower (sha256 body)
chosen_text (Some payload) body = payload_text (signed_in_place payload)

-- where the signature goes
abbrev pub location_of : HttpSignatureType → SignatureLocation
location_of HttpRequestHeaders = Headers
location_of HttpRequestQueryParams = QueryParams

-- what the endpoint disables or doesn't, or else what the options enable
abbrev pub is_enabled : Option Bool → Bool → Bool
is_enabled None enabled = enabled
is_enabled (Some disabled) enabled = not disabled

-- the settings that the options and the endpoint's fields make, with the token's usual name
abbrev pub made_settings : Fields → SigningOptions → Settings
made_settings fields options = record {
  percent_encoding_mode = (if is_enabled fields.disable_double_encoding options.double_uri_encode then Double else Single);
  payload_checksum_kind = (if options.content_sha256_header then XAmzSha256 else NoHeader);
  signature_location = location_of options.signature_type;
  expires_in = options.expires_in;
  excluded_headers = Some default_exclusions;
  uri_path_normalization_mode = (if is_enabled fields.disable_normalize_path options.normalize_uri_path then Enabled else Disabled);
  session_token_mode = (if options.omit_session_token then Exclude else Include);
  session_token_name_override = None;
}

-- the settings that options make where no endpoint is given
abbrev pub settings_by : SigningOptions → Settings
settings_by options = made_settings (fields_of None) options

-- the inputs have this config and nothing else
pub record HasOnlyConfig (given : SigV4OperationSigningConfig) (inputs : SigningInputs) : Type 0 where
  pub config : option_copied inputs.config ≡ Some given
  pub endpoint : option_copied inputs.endpoint ≡ None
  pub name : option_copied inputs.name ≡ None
  pub region : option_copied inputs.region ≡ None
  pub payload : option_copied inputs.payload ≡ None
  pub skew_millis : inputs.skew_millis ≡ None

-- the same settings, with the name that an override gives the token
abbrev pub with_token_name : Settings → Option (List ℕ) → Settings
with_token_name settings name = record settings { session_token_name_override = name }

-- all that a request is signed with, but for the token's name
pub record ChosenInputs : Type 0 where
  pub region : Option (List ℕ)
  pub name : Option (List ℕ)
  pub payload : Option PayloadSigningOverride
  pub settings : Settings
  pub at : Instant

-- what is chosen by the fields of an endpoint, the inputs and a config, for a request that is signed now
abbrev pub chosen_by : Fields → SigningInputs → SigV4OperationSigningConfig → Instant → ChosenInputs
chosen_by fields inputs config now = record {
  region = chosen_region fields inputs config;
  name = chosen_name fields inputs config;
  payload = chosen_payload inputs config;
  settings = made_settings fields config.signing_options;
  at = signing_moment now config.signing_options.signature_type inputs.skew_millis;
}

-- the same by the endpoint and the config of the inputs
unfoldable pub chosen : SigningInputs → Instant → ChosenInputs
chosen inputs now = chosen_by (fields_of (given_endpoint inputs)) inputs (given_config inputs) now

-- the case of a request that an identity signs, for the name that an override gives the token and what the target spells; a region and a name that
-- are missing are refused
abbrev pub chosen_case : HttpRequest → Identity → ChosenInputs → Option (List ℕ) → Target → Case
chosen_case request identity choice token_name target = record {
  method = string_bytes request.method;
  target = target;
  headers = request.headers;
  payload = chosen_text choice.payload request.body;
  settings = with_token_name choice.settings token_name;
  key_id = key_id_of identity;
  token = token_of identity;
  signer = record { secret = secret_of identity; region = unwrap_or choice.region []; name = unwrap_or choice.name [] };
  at = choice.at;
}
