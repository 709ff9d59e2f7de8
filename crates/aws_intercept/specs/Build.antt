-- How a program was built.
use Rattle.std.specs.Prelude.{◌≡◌, ℕ, List, codes, string_bytes}
use Rattle.aws_intercept.specs.declared.user_agent.build.BuildMetadata.{BuildMetadata}
use Rattle.aws_intercept.specs.declared.user_agent.build.OsFamily.{OsFamily}
use Rattle.aws_intercept.specs.declared.user_agent.build.OsFamily.TheVariants.{Windows, Linux, Macos, Android, Ios, Other}

-- a family in lower case
abbrev pub family_text : OsFamily → List ℕ
family_text Windows = codes "windows"
family_text Linux = codes "linux"
family_text Macos = codes "macos"
family_text Android = codes "android"
family_text Ios = codes "ios"
family_text Other = codes "other"

-- the texts and the family of a copy
pub record IsSameBuild (build copy : BuildMetadata) : Type 0 where
  pub core_version : string_bytes copy.core_version ≡ string_bytes build.core_version
  pub rust_version : string_bytes copy.rust_version ≡ string_bytes build.rust_version
  pub os_family : copy.os_family ≡ build.os_family
  pub extra : copy.extra ≡ build.extra
