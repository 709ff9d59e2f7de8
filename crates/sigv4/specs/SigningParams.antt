-- The parameters of a request's signature, of whatever version.
use Rattle.std.specs.Prelude.{◌≡◌, ℕ, List}
use Rattle.smithy_core.specs.Moment.{Instant}
use Rattle.sigv4.specs.Params.{IsCopied, v4_name, v4_region, v4_settings, v4_time}
use Rattle.sigv4.specs.Settings.{settings_of}
use Rattle.sigv4.specs.declared.settings.SigningSettings.{SigningSettings}
use Rattle.sigv4.specs.declared.signing_params.SigningParams.{SigningParams}
use Rattle.sigv4.specs.declared.signing_params.SigningParams.TheVariants.{V4}

-- the region of the parameters
abbrev pub params_region : SigningParams → List ℕ
params_region (V4 params) = v4_region params

-- the service's name of the parameters
abbrev pub params_name : SigningParams → List ℕ
params_name (V4 params) = v4_name params

-- the moment of the parameters
abbrev pub params_time : SigningParams → Instant
params_time (V4 params) = v4_time params

-- the settings of the parameters
abbrev pub params_signing_settings : SigningParams → SigningSettings
params_signing_settings (V4 params) = v4_settings params

-- the parameters are the same, and so are the contents of the settings
abbrev pub IsSameParams : SigningParams → SigningParams → Type 0
IsSameParams (V4 params) (V4 copy) = IsCopied (λ settings other. settings_of other ≡ settings_of settings) params copy
