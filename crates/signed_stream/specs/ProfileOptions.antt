-- The options of profiles, which commands share.
use Rattle.std.specs.Prelude.{ℕ, Bool, true, false, if◌then◌else◌, List, [], ◌∷◌, ◌++◌, map, codes, bytes_eq, Option, Some, None, is_some}
use Rattle.std.specs.List.{list_any}
use Rattle.std.specs.Option.{option_copied}
use Rattle.env_config.specs.Files.{Place, Usual, At, Given}
use Rattle.env_config.specs.declared.source.EnvConfigFileKind.{EnvConfigFileKind}
use Rattle.env_config.specs.declared.source.EnvConfigFileKind.TheVariants.{Config, Credentials}
use Rattle.signed_stream.specs.OptionWords.{OptionRules, no_flag}
use Rattle.signed_stream.specs.declared.command.profile.NamedFile.{NamedFile}
use Rattle.signed_stream.specs.declared.command.profile.ProfileOption.{ProfileOption}
use Rattle.signed_stream.specs.declared.command.profile.ProfileOption.TheVariants.{ServiceId, NamesFile}
use Rattle.signed_stream.specs.declared.command.profile.ProfileOptions.{ProfileOptions}

-- what is asked of profiles: the id of the service that may have values of its own, and the files in order
pub record ProfileWanted : Type 0 where
  pub service_id : Option (List ℕ)
  pub files : List Place

-- no option of profiles
abbrev pub nothing_wanted : ProfileWanted
nothing_wanted = record { service_id = None; files = [] }

-- the option that a word names
unfoldable pub profile_option : List ℕ → Option ProfileOption
profile_option word =
    if bytes_eq word (codes "--service-id") then Some ServiceId
    else if bytes_eq word (codes "--config") then Some (NamesFile Config)
    else if bytes_eq word (codes "--credentials") then Some (NamesFile Credentials)
    else None

-- the kind of a file
abbrev pub place_kind : Place → EnvConfigFileKind
place_kind (Usual kind) = kind
place_kind (At kind path) = kind
place_kind (Given kind contents) = kind

abbrev pub is_same_kind : EnvConfigFileKind → EnvConfigFileKind → Bool
is_same_kind Config Config = true
is_same_kind Config Credentials = false
is_same_kind Credentials Config = false
is_same_kind Credentials Credentials = true

-- the option stood
abbrev pub stands : ProfileWanted → ProfileOption → Bool
stands wanted ServiceId = is_some wanted.service_id
stands wanted (NamesFile kind) = list_any (λ place. is_same_kind kind (place_kind place)) wanted.files

-- the option names a file
abbrev pub names_file : ProfileOption → Bool
names_file ServiceId = false
names_file (NamesFile kind) = true

-- what is asked with an option of this value more
abbrev pub with_profile_option : ProfileWanted → ProfileOption → List ℕ → ProfileWanted
with_profile_option wanted ServiceId value = record wanted { service_id = Some value }
with_profile_option wanted (NamesFile kind) value = record wanted { files = wanted.files ++ At kind value ∷ [] }

-- the options of profiles, each of which stands once
abbrev pub profile_rules : OptionRules ProfileWanted ProfileOption
profile_rules = record { named = profile_option; stood = stands; valued = λ wanted option value. Some (with_profile_option wanted option value); flagged = no_flag }

-- the place of a named file
abbrev pub place_of : NamedFile → Place
place_of file = At file.kind file.path.now

-- what the options ask of profiles
abbrev pub profile_wanted : ProfileOptions → ProfileWanted
profile_wanted profile = record { service_id = option_copied profile.service_id; files = map place_of profile.files.items }
