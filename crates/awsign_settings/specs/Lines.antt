-- What is printed of the settings: a line for each, with its value, and where it came from.
use Rattle.std.specs.Prelude.{ℕ, ◌-◌, if◌then◌else◌, List, ◌++◌, length, drop, codes, Option, Some, None, option_map}
use Rattle.std.specs.Fmt.{decimal}
use Rattle.smithy_core.specs.Text.{line}
use Rattle.awsign_settings.specs.Settings.{Used, UsedKey, UsedSettings, Whence, by_file, by_name, by_nothing}
use Rattle.awsign_settings.specs.declared.lines.Shown.{Shown}
use Rattle.awsign_settings.specs.declared.lines.Shown.TheVariants.{Plain, Masked, Hidden}

-- how a value is shown: as it is, by its last four bytes, or not at all
abbrev pub value_shown : Shown → List ℕ → List ℕ
value_shown Plain value = value
value_shown Masked value = codes "****************" ++ drop (length value - 4) value
value_shown Hidden value = codes "set"

-- where a value came from
abbrev pub whence_text : Whence → List ℕ
whence_text (by_name name) = name
whence_text (by_file path None) = path
whence_text (by_file path (Some place)) = path ++ (codes ", line " ++ decimal place)
whence_text by_nothing = codes "not named"

-- a line: the setting, its value, and where it came from, with tabs between them
abbrev pub tabbed_line : List ℕ → List ℕ → List ℕ → List ℕ
tabbed_line name value whence = line (name ++ (codes "\t" ++ (value ++ (codes "\t" ++ whence))))

-- the line of a setting; where it has no value, it says where one was looked for
abbrev pub used_line : List ℕ → Shown → List ℕ → Option Used → List ℕ
used_line name form missed None = tabbed_line name (codes "not set") missed
used_line name form missed (Some used) = tabbed_line name (value_shown form used.value) (whence_text used.whence)

-- where a part of the key was looked for: in this variable beside the one of the key id, or in the files
abbrev pub missed_at : UsedKey → List ℕ → List ℕ → List ℕ
missed_at key name paths = if key.by_variables then name else paths

-- the lines of a key
unfoldable pub key_lines : List ℕ → UsedKey → List ℕ
key_lines paths key =
    used_line (codes "key") Masked paths key.key_id
    ++ (used_line (codes "secret") Hidden (missed_at key (codes "AWS_SECRET_ACCESS_KEY") paths) key.secret
    ++ used_line (codes "token") Hidden (missed_at key (codes "AWS_SESSION_TOKEN") paths) key.token)

-- the lines of all settings, and where those without a value were looked for
unfoldable pub settings_text : List ℕ → UsedSettings → List ℕ
settings_text paths settings =
    used_line (codes "profile") Plain paths (Some settings.profile)
    ++ (key_lines paths settings.key ++ used_line (codes "region") Plain paths settings.region)

-- ## What isn't printed

-- another value from the same place
abbrev pub with_other_value : List ℕ → Option Used → Option Used
with_other_value value used = option_map (λ (used : Used). record used { value = value }) used

-- the key with another secret and another token, where it has them
abbrev pub with_other_secrets : List ℕ → List ℕ → UsedKey → UsedKey
with_other_secrets secret token key = record key { secret = with_other_value secret key.secret; token = with_other_value token key.token }

-- the same of all settings
abbrev pub with_secrets : List ℕ → List ℕ → UsedSettings → UsedSettings
with_secrets secret token settings = record settings { key = with_other_secrets secret token settings.key }
