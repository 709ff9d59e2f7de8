-- What contracts see of the settings of a signature.
use Rattle.std.specs.Prelude.{ℕ, Bool, true, false, List, [], ◌∷◌, codes, map, Option, Some, None, option_map, string_bytes}
use Rattle.sigv4.specs.declared.modes.PercentEncodingMode.{PercentEncodingMode}
use Rattle.sigv4.specs.declared.modes.PercentEncodingMode.TheVariants.{Double, Single}
use Rattle.sigv4.specs.declared.modes.UriPathNormalizationMode.{UriPathNormalizationMode}
use Rattle.sigv4.specs.declared.modes.UriPathNormalizationMode.TheVariants.{Enabled, Disabled}
use Rattle.sigv4.specs.declared.settings.PayloadChecksumKind.{PayloadChecksumKind}
use Rattle.sigv4.specs.declared.settings.PayloadChecksumKind.TheVariants.{NoHeader, XAmzSha256}
use Rattle.sigv4.specs.declared.settings.SessionTokenMode.{SessionTokenMode}
use Rattle.sigv4.specs.declared.settings.SessionTokenMode.TheVariants.{Include}
use Rattle.sigv4.specs.declared.settings.SignatureLocation.{SignatureLocation}
use Rattle.sigv4.specs.declared.settings.SignatureLocation.TheVariants.{Headers, QueryParams}
use Rattle.sigv4.specs.declared.settings.SigningSettings.{SigningSettings}

-- the settings, with names as texts
pub record Settings : Type 0 where
  pub percent_encoding_mode : PercentEncodingMode
  pub payload_checksum_kind : PayloadChecksumKind
  pub signature_location : SignatureLocation
  pub expires_in : Option ℕ
  pub excluded_headers : Option (List (List ℕ))
  pub uri_path_normalization_mode : UriPathNormalizationMode
  pub session_token_mode : SessionTokenMode
  pub session_token_name_override : Option (List ℕ)

-- what contracts see of the settings of a signing
abbrev pub settings_of : SigningSettings → Settings
settings_of s = record {
  percent_encoding_mode = s.percent_encoding_mode;
  payload_checksum_kind = s.payload_checksum_kind;
  signature_location = s.signature_location;
  expires_in = s.expires_in;
  excluded_headers = option_map (λ names. map string_bytes names.items) s.excluded_headers;
  uri_path_normalization_mode = s.uri_path_normalization_mode;
  session_token_mode = s.session_token_mode;
  session_token_name_override = option_map string_bytes s.session_token_name_override;
}

-- the names that aren't signed unless the settings say otherwise: the signature makes the first, proxies change the second and the third, and each hop may
-- drop the last
abbrev pub default_exclusions : List (List ℕ)
default_exclusions = codes "authorization" ∷ codes "user-agent" ∷ codes "x-amzn-trace-id" ∷ codes "transfer-encoding" ∷ []

-- the settings of header form
abbrev pub default_settings : Settings
default_settings = record {
  percent_encoding_mode = Double;
  payload_checksum_kind = NoHeader;
  signature_location = Headers;
  expires_in = None;
  excluded_headers = Some default_exclusions;
  uri_path_normalization_mode = Enabled;
  session_token_mode = Include;
  session_token_name_override = None;
}

-- the settings of header form for Amazon S3, whose keys may hold any text, `//` and `..` too: the path is escaped once and stays as it is, and the payload's
-- text has a header
abbrev pub s3_settings : Settings
s3_settings = record default_settings {
  percent_encoding_mode = Single;
  payload_checksum_kind = XAmzSha256;
  uri_path_normalization_mode = Disabled;
}

-- the signature goes into the parameters of the target's query
abbrev pub is_query : SignatureLocation → Bool
is_query Headers = false
is_query QueryParams = true

-- the settings are those of query form, not of header form
abbrev pub is_query_form : Settings → Bool
is_query_form s = is_query s.signature_location
