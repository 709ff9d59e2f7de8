-- Values and where they came from, one or another.
use Rattle.std.proofs.Common.{◌≡◌, true, Option, Some, None, option_map, refl}
use Rattle.std.specs.Prelude.{unwrap_or}
use Rattle.std.specs.Option.{option_or}
use Rattle.awsign_settings.specs.Settings.{Used, UsedKey, used_of}
use Rattle.awsign_settings.specs.declared.sourced.Sourced.{Sourced}

-- the first value, or else the second
pub used_either : (x y : Option Sourced) → option_map used_of (option_or x y) ≡ option_or (option_map used_of x) (option_map used_of y)
used_either None y = refl
used_either (Some x) y = refl

-- the value, or else the default
pub used_default : (x : Option Sourced) (d : Sourced) → used_of (unwrap_or x d) ≡ unwrap_or (option_map used_of x) (used_of d)
used_default None d = refl
used_default (Some x) d = refl

-- the key of the variables
abbrev pub variables_used : Used → Option Used → Option Used → UsedKey
variables_used key_id secret token = record { by_variables = true; key_id = Some key_id; secret = secret; token = token }
