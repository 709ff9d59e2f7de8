-- The home directory, by the variables of the system.
use Rattle.std.specs.Prelude.{ℕ, List, ◌++◌, codes, Option, Some, None}
use Rattle.std.specs.Option.{option_or}
use Rattle.smithy_core.specs.TextPairs.{last_value}
use Rattle.env_config.specs.declared.home.Os.{Os}
use Rattle.env_config.specs.declared.home.Os.TheVariants.{Unix, Windows}

-- both texts, one after the other
abbrev pub both_joined : Option (List ℕ) → Option (List ℕ) → Option (List ℕ)
both_joined (Some text) (Some other) = Some (text ++ other)
both_joined (Some text) None = None
both_joined None other = None

-- the profile of the user, or the drive with the path on it
abbrev pub windows_home : List (List ℕ × List ℕ) → Option (List ℕ)
windows_home env =
    option_or (last_value env (codes "USERPROFILE")) (both_joined (last_value env (codes "HOMEDRIVE")) (last_value env (codes "HOMEPATH")))

abbrev pub other_home : List (List ℕ × List ℕ) → Os → Option (List ℕ)
other_home env Windows = windows_home env
other_home env Unix = None

-- `HOME`, or else what the system has beside it
abbrev pub home : List (List ℕ × List ℕ) → Os → Option (List ℕ)
home env os = option_or (last_value env (codes "HOME")) (other_home env os)
