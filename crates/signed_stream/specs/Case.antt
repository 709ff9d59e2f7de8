-- The case of a job's request: what is signed, and with what.
use Rattle.std.specs.Prelude.{ℕ, if◌then◌else◌, List, Option}
use Rattle.smithy_core.specs.Moment.{Instant}
use Rattle.smithy_http.specs.Target.{Target}
use Rattle.sigv4.specs.Request.{Case}
use Rattle.sigv4.specs.Settings.{Settings, default_settings}
use Rattle.sigv4.specs.declared.modes.PercentEncodingMode.TheVariants.{Double, Single}
use Rattle.sigv4.specs.declared.modes.UriPathNormalizationMode.TheVariants.{Enabled, Disabled}
use Rattle.sigv4.specs.declared.settings.PayloadChecksumKind.TheVariants.{XAmzSha256, NoHeader}
use Rattle.sigv4.specs.declared.settings.SessionTokenMode.TheVariants.{Include, Exclude}
use Rattle.aws_auth.specs.Inputs.{chosen_text, location_of}
use Rattle.aws_auth.specs.Moment.{signing_moment}
use Rattle.aws_auth.specs.declared.options.SigningOptions.{SigningOptions}
use Rattle.signed_stream.specs.Command.{Wanted}
use Rattle.job_text.specs.Job.{JobParts}
use Rattle.signed_stream.specs.Settings.{Selected}

-- the default settings, but for what the options say, with this name of the token
abbrev pub settings_with : SigningOptions → Option (List ℕ) → Settings
settings_with options token_name = record default_settings {
  percent_encoding_mode = (if options.double_uri_encode then Double else Single);
  payload_checksum_kind = (if options.content_sha256_header then XAmzSha256 else NoHeader);
  signature_location = location_of options.signature_type;
  expires_in = options.expires_in;
  uri_path_normalization_mode = (if options.normalize_uri_path then Enabled else Disabled);
  session_token_mode = (if options.omit_session_token then Exclude else Include);
  session_token_name_override = token_name;
}

-- the moment of the request: the first one, shifted by the skew in header form
abbrev pub request_moment : Wanted → Instant → Instant
request_moment wanted first = signing_moment first wanted.signing.signature_type wanted.skew_millis

-- the case of a job at its first moment, whose target has these parts
abbrev pub job_case : JobParts → Wanted → Selected → Instant → Target → Case
job_case j wanted selected first target = record {
  method = j.method;
  target = target;
  headers = j.headers;
  payload = chosen_text wanted.signing.payload_override j.body;
  settings = settings_with wanted.signing wanted.token_name;
  key_id = selected.key_id;
  token = selected.token;
  signer = record { secret = selected.secret; region = selected.region; name = wanted.name };
  at = request_moment wanted first;
}
