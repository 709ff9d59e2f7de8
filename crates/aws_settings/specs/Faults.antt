-- What a fault is made of, and printed as.
use Rattle.std.specs.Prelude.{ℕ, List, ◌++◌, codes, string_bytes}
use Rattle.env_config.specs.ParseFault.{parse_error_text}
use Rattle.env_config.specs.declared.parse_fault.ParseFault.{ParseFault}
use Rattle.env_config.specs.declared.parse_fault.ParseFault.TheVariants.{Parse, NoMemory as ParsedNoMemory}
use Rattle.aws_settings.specs.declared.fault.SettingsFault.{SettingsFault}
use Rattle.aws_settings.specs.declared.fault.SettingsFault.TheVariants.{Profile, MissingKey, MissingSecret, MissingRegion, NoMemory}

-- the fault of texts of profile files that give no sections
abbrev pub parse_fault : ParseFault → SettingsFault
parse_fault (Parse error) = Profile error
parse_fault ParsedNoMemory = NoMemory

-- what a fault is printed as
abbrev pub settings_lack_text : SettingsFault → List ℕ
settings_lack_text (Profile error) = parse_error_text error
settings_lack_text (MissingKey profile) =
    codes "there is no key: AWS_ACCESS_KEY_ID isn't set, and the profile '" ++ (string_bytes profile ++ codes "' has no aws_access_key_id or no aws_secret_access_key")
settings_lack_text MissingSecret = codes "AWS_ACCESS_KEY_ID is set and AWS_SECRET_ACCESS_KEY isn't"
settings_lack_text (MissingRegion profile) =
    codes "there is no region: AWS_REGION and AWS_DEFAULT_REGION aren't set, and the profile '" ++ (string_bytes profile ++ codes "' has none")
settings_lack_text NoMemory = codes "no memory"
