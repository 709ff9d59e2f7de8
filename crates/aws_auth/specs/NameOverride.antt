-- What an override of the session token's name answers.
use Rattle.std.specs.Prelude.{◌≡◌, ℕ, List, codes, Option, Some, None, Result, Ok, String}
use Rattle.std.specs.Borrow.{Bor}
use Rattle.std.specs.Fn.{FnReturns, Shared}
use Rattle.std.specs.declared.alloc.Global.{Global}
use Rattle.sigv4.specs.Settings.{Settings, settings_of}
use Rattle.sigv4.specs.declared.settings.SigningSettings.{SigningSettings}
use Rattle.aws_auth.specs.declared.name_override.OverrideError.{OverrideError}
use Rattle.aws_auth.specs.declared.name_override.OverrideError.TheVariants as overrides
use Rattle.aws_auth.specs.declared.options.SigV4OperationSigningConfig.{SigV4OperationSigningConfig}

-- the name, where it gives one, or why it doesn't
abbrev pub NameAnswer : Type 0
NameAnswer = Result (Option (String Global)) OverrideError

module _ {F : Type 0} (calls : Shared F (Bor SigningSettings × (Bor SigV4OperationSigningConfig × Unit {0})) NameAnswer) where
  -- a call of the closure at these settings and this config may answer so
  pub record MayAnswer (closure : F) (settings : Settings) (config : SigV4OperationSigningConfig) (answer : NameAnswer) : Type 0 where
    pub shown_settings : Bor SigningSettings
    pub shown_config : Bor SigV4OperationSigningConfig
    pub shows_settings : settings_of shown_settings.now ≡ settings
    pub shows_config : shown_config.now ≡ config
    pub says : FnReturns calls closure (shown_settings, (shown_config, tt)) answer

  -- the name that an override gives, and none where there is no override
  abbrev pub AnswersName : Option F → Settings → SigV4OperationSigningConfig → NameAnswer → Type 0
  AnswersName None settings config answer = answer ≡ Ok None
  AnswersName (Some closure) settings config answer = MayAnswer closure settings config answer

-- what is printed of an override that gives no name
abbrev pub override_error_text : OverrideError → List ℕ
override_error_text overrides.Refused = codes "the name of the session token is refused"
override_error_text overrides.NoMemory = codes "no memory"
