-- What isn't printed.
use Rattle.std.proofs.Common.{◌≡◌, ◌++◌, ℕ, List, Option, Some, None, codes, refl, ap, ap₂}
use Rattle.awsign_settings.specs.Settings.{Used, UsedKey, UsedSettings}
use Rattle.awsign_settings.specs.Lines.{key_lines, missed_at, used_line, settings_text, with_other_secrets, with_other_value, with_secrets}
use Rattle.awsign_settings.specs.declared.lines.Shown.TheVariants.{Plain, Masked, Hidden}

-- a hidden value isn't printed
hidden : (name missed value : List ℕ) (used : Option Used) → used_line name Hidden missed (with_other_value value used) ≡ used_line name Hidden missed used
hidden name missed value None = refl
hidden name missed value (Some used) = refl

-- the lines of a key with another secret and another token
key_hidden : (paths secret token : List ℕ) (key : UsedKey) → key_lines paths (with_other_secrets secret token key) ≡ key_lines paths key
unfolding key_lines
key_hidden paths secret token key =
    let first = used_line (codes "key") Masked paths key.key_id in
    ap₂ (λ (s t : List ℕ). first ++ (s ++ t))
    (hidden (codes "secret") (missed_at key (codes "AWS_SECRET_ACCESS_KEY") paths) secret key.secret)
    (hidden (codes "token") (missed_at key (codes "AWS_SESSION_TOKEN") paths) token key.token)

pub secrets_hidden : (paths secret token : List ℕ) (settings : UsedSettings) → settings_text paths (with_secrets secret token settings) ≡ settings_text paths settings
unfolding settings_text
secrets_hidden paths secret token settings =
    ap (λ (lines : List ℕ). used_line (codes "profile") Plain paths (Some settings.profile) ++ (lines ++ used_line (codes "region") Plain paths settings.region))
    (key_hidden paths secret token settings.key)
