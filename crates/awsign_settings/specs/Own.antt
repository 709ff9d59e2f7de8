-- What each profile file has of the selected profile by itself.
use Rattle.std.specs.Prelude.{◌≡◌, ℕ, List, [], ◌∷◌, codes, map, Option, Result, Ok, Err}
use Rattle.std.specs.Global.{Vec}
use Rattle.env_config.specs.Sections.{FileText, sections}
use Rattle.env_config.specs.Source.{file_of}
use Rattle.aws_settings.specs.Choice.{IsLackOf, Lack, Profile, profile_of, profile_values}
use Rattle.aws_settings.specs.declared.fault.SettingsFault.{SettingsFault}
use Rattle.awsign_run.specs.Chosen.{file_path}
use Rattle.awsign_settings.specs.declared.own.OwnProfile.{OwnProfile}
use Rattle.awsign_settings.specs.declared.part.Part.{Part}
use Rattle.awsign_settings.specs.declared.part.Part.TheVariants.{KeyId, Secret, Token, Region}

-- ## Parts of a profile

-- the key of a part's property
abbrev pub part_key : Part → List ℕ
part_key KeyId = codes "aws_access_key_id"
part_key Secret = codes "aws_secret_access_key"
part_key Token = codes "aws_session_token"
part_key Region = codes "region"

-- a part of a profile
abbrev pub part_in : Part → Profile → Option (List ℕ)
part_in KeyId profile = profile.key_id
part_in Secret profile = profile.secret
part_in Token profile = profile.token
part_in Region profile = profile.region

-- ## Files by themselves

-- a profile file, and what the selected profile has in it
pub record Own : Type 0 where
  pub file : FileText
  pub profile : Profile

-- the path of a file, where it has one
abbrev pub own_path : Own → List ℕ
own_path own = file_path own.file

-- what the profile of this name has in a file alone, or its first faulty line
abbrev pub alone : List ℕ → FileText → Result Profile Lack
alone name file = profile_of (sections (file ∷ [])) name

-- the same before that of other files
abbrev pub onto_own : FileText → Result Profile Lack → Result (List Own) Lack → Result (List Own) Lack
onto_own file (Err lack) others = Err lack
onto_own file (Ok profile) (Err lack) = Err lack
onto_own file (Ok profile) (Ok others) = Ok (record { file = file; profile = profile } ∷ others)

-- what the profile of this name has in each file alone, or the first faulty line of the first faulty file
abbrev pub own_profiles : List ℕ → List FileText → Result (List Own) Lack
own_profiles name [] = Ok []
own_profiles name (file ∷ files) = onto_own file (alone name file) (own_profiles name files)

-- ## Answers

-- what contracts see of what a profile has in a file
abbrev pub own_of : OwnProfile → Own
own_of own = record { file = file_of own.file; profile = profile_values own.values }

-- this is what the profile has in a file, or why there is nothing
abbrev pub GivesOwn : FileText → Result Profile Lack → Result OwnProfile SettingsFault → Type 0
GivesOwn file planned (Ok own) = ((own_of own).file ≡ file) × (planned ≡ Ok (own_of own).profile)
GivesOwn file planned (Err fault) = IsLackOf planned fault

-- this is what the profile has in each file, or why there is nothing
abbrev pub GivesOwns : Result (List Own) Lack → Result (Vec OwnProfile) SettingsFault → Type 0
GivesOwns planned (Ok owns) = planned ≡ Ok (map own_of owns.items)
GivesOwns planned (Err fault) = IsLackOf planned fault
