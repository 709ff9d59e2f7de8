-- The options of an operation's signatures.
use Rattle.std.specs.Prelude.{◌≡◌, ℕ, true, false, Option, Some, None}
use Rattle.aws_auth.specs.Payload.{IsSameOverride}
use Rattle.aws_auth.specs.declared.options.HttpSignatureType.TheVariants.{HttpRequestHeaders, HttpRequestQueryParams}
use Rattle.aws_auth.specs.declared.options.SigV4OperationSigningConfig.{SigV4OperationSigningConfig}
use Rattle.aws_auth.specs.declared.options.SigningOptions.{SigningOptions}
use Rattle.aws_auth.specs.declared.payload.PayloadSigningOverride.{PayloadSigningOverride}
use Rattle.aws_auth.specs.declared.payload.PayloadSigningOverride.TheVariants.{UnsignedPayload}

-- the path is escaped twice and put into its normal form, the payload's text has no header, the token is signed, the body's bytes
-- are, and the signature goes into headers
abbrev pub default_options : SigningOptions
default_options = record {
  double_uri_encode = true;
  content_sha256_header = false;
  normalize_uri_path = true;
  omit_session_token = false;
  payload_override = None;
  signature_type = HttpRequestHeaders;
  signing_optional = false;
  expires_in = None;
}

-- the options for Amazon S3: the path is escaped once and stays as it is, and the payload's text has a header
abbrev pub s3_options : SigningOptions
s3_options = record default_options { double_uri_encode = false; content_sha256_header = true; normalize_uri_path = false }

-- the signature goes into the query of a URL that is good for so many seconds
abbrev pub presigned_options : ℕ → SigningOptions
presigned_options seconds = record default_options { signature_type = HttpRequestQueryParams; expires_in = Some seconds }

-- likewise for Amazon S3, where the payload isn't signed
abbrev pub s3_presigned_options : ℕ → SigningOptions
s3_presigned_options seconds = record s3_options { payload_override = Some UnsignedPayload; signature_type = HttpRequestQueryParams; expires_in = Some seconds }

-- no region, no name, and the default options
abbrev pub default_config : SigV4OperationSigningConfig
default_config = record { region = None; name = None; signing_options = default_options }

-- both overrides are there, and the same, or neither is
abbrev pub AreSameOverrides : Option PayloadSigningOverride → Option PayloadSigningOverride → Type 0
AreSameOverrides None copy = copy ≡ None
AreSameOverrides (Some payload) (Some copy) = IsSameOverride payload copy
AreSameOverrides (Some payload) None = ⊥

-- the options of a signing are the same
pub record IsSameOptions (options copy : SigningOptions) : Type 0 where
  pub double_uri_encode : copy.double_uri_encode ≡ options.double_uri_encode
  pub content_sha256_header : copy.content_sha256_header ≡ options.content_sha256_header
  pub normalize_uri_path : copy.normalize_uri_path ≡ options.normalize_uri_path
  pub omit_session_token : copy.omit_session_token ≡ options.omit_session_token
  pub payload_override : AreSameOverrides options.payload_override copy.payload_override
  pub signature_type : copy.signature_type ≡ options.signature_type
  pub signing_optional : copy.signing_optional ≡ options.signing_optional
  pub expires_in : copy.expires_in ≡ options.expires_in

-- the regions, the names and the options are the same
pub record IsSameConfig (config copy : SigV4OperationSigningConfig) : Type 0 where
  pub region : copy.region ≡ config.region
  pub name : copy.name ≡ config.name
  pub signing_options : IsSameOptions config.signing_options copy.signing_options
