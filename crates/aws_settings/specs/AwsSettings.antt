-- What the variables and the profile files of a process give to sign with.
use Rattle.std.specs.Prelude.{◌≡◌, ◌⊎◌, ℕ, false, List, [], ◌∷◌, codes, map, string_bytes, Option, None, Some, Result, Err}
use Rattle.std.specs.Global.{Vec}
use Rattle.smithy_core.specs.declared.outside.disk.DiskError.{DiskError}
use Rattle.env_config.specs.Files.{Place, Usual}
use Rattle.env_config.specs.Loading.{Loaded}
use Rattle.env_config.specs.Sections.{FileText, sections}
use Rattle.env_config.specs.Source.{file_of}
use Rattle.env_config.specs.declared.source.EnvConfigFileKind.{EnvConfigFileKind}
use Rattle.env_config.specs.declared.source.EnvConfigFileKind.TheVariants.{Config, Credentials}
use Rattle.env_config.specs.declared.source.Source.{Source}
use Rattle.aws_settings.specs.Choice.{GivesChosen, Lack, ChosenSettings, profile_name, profile_of, choice_by}
use Rattle.aws_settings.specs.declared.fault.SettingsFault.{SettingsFault}
use Rattle.aws_settings.specs.declared.fault.SettingsFault.TheVariants.{NoMemory}
use Rattle.aws_settings.specs.declared.settings.AwsSettings.{AwsSettings}

-- what texts of files give, for the profile that the variables select
abbrev pub settings_given : List FileText → List (List ℕ × List ℕ) → Result ChosenSettings Lack
settings_given files env = choice_by false None env (profile_of (sections files) (profile_name None env))

-- a text in a file's place: a fault in it names it so
abbrev pub named_text : EnvConfigFileKind → List ℕ → List ℕ → FileText
named_text kind name contents = record { kind = kind; path = Some name; contents = contents }

-- the texts in place of the two default files
abbrev pub named_texts : List ℕ → List ℕ → List FileText
named_texts config credentials = named_text Config (codes "the config text") config ∷ named_text Credentials (codes "the credentials text") credentials ∷ []

-- the default files
abbrev pub default_places : List Place
default_places = Usual Config ∷ Usual Credentials ∷ []

module _ {D : Type 0} (answers : D → List ℕ → Result (Vec ℕ) DiskError → D → Type 0) (faults : D → ℕ) (files : Option (List (List ℕ × List ℕ))) where
  -- the default files were read, each once, and these settings are what their texts and the variables give, or this is why there are none; or memory ran out
  abbrev pub ReadsSettings : List (List ℕ × List ℕ) → D → D → Result AwsSettings SettingsFault → Type 0
  ReadsSettings env before now result =
      (result ≡ Err NoMemory)
      ⊎ ((texts : List FileText) × Loaded answers faults files env default_places before now texts × GivesChosen (settings_given texts env) result)

  -- the texts of the default files, and the selected profile; or memory ran out
  abbrev pub LoadsDefaults : List (List ℕ × List ℕ) → D → D → Source → Type 0
  LoadsDefaults env before now source =
      Loaded answers faults files env default_places before now (map file_of source.files.items) × (string_bytes source.profile ≡ profile_name None env)
