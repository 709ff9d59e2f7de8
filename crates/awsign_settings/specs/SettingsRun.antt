-- How a run of `awsign settings` goes: what was read, and what the output gained.
use Rattle.std.specs.Prelude.{◌≡◌, ◌⊎◌, ◌==◌, ℕ, if◌then◌else◌, List, length, Option, Some, None, Result, Ok, Err, string_bytes}
use Rattle.smithy_core.specs.Outside.{Gains, GainsProperPrefix}
use Rattle.env_config.specs.Sections.{FileText}
use Rattle.awsign_words.specs.Words.{OptionValues}
use Rattle.aws_settings.specs.Choice.{ChosenSettings, Lack}
use Rattle.awsign_run.specs.Chosen.{SignRefusal, as_refused, asked_profile, empty_region, file_paths, lack_refusal, refusal_of}
use Rattle.awsign_run.specs.declared.status.Status.{Status}
use Rattle.awsign_run.specs.declared.status.Status.TheVariants.{Done, BadWord, CouldNotReadFile, DataFault, Refused, OutputFault, NoMemory}
use Rattle.awsign_settings.specs.Own.{Own, own_profiles}
use Rattle.awsign_settings.specs.Settings.{Used, UsedSettings, given_choice, used_settings}
use Rattle.awsign_settings.specs.Lines.{settings_text}

-- ## What can be signed

-- why nothing is signed, in place of the settings
abbrev pub refusal_in : Result ChosenSettings SignRefusal → Option SignRefusal
refusal_in (Ok settings) = None
refusal_in (Err refusal) = Some refusal

-- why nothing can be signed by the settings, where it can't; the files at these paths were looked at
abbrev pub settings_refusal : List ℕ → UsedSettings → Option SignRefusal
settings_refusal paths settings = refusal_in (as_refused paths (given_choice settings))

-- why nothing can be signed for a region: it is empty
abbrev pub region_refusal : Option Used → Option SignRefusal
region_refusal None = None
region_refusal (Some region) = if length region.value == 0 then Some empty_region else None

-- ## The run

-- the text of the settings was written, and by them a request can be signed, or this is why it can't; or a part of the text, where the output failed or
-- memory ran out
abbrev pub PrintsText : List ℕ → Option SignRefusal → Status → Option (List ℕ) → Option (List ℕ) → Type 0
PrintsText text refusal Done before now = Gains before now text × (refusal ≡ None)
PrintsText text refusal (Refused fault) before now = Gains before now text × (refusal ≡ Some (refusal_of fault))
PrintsText text refusal OutputFault before now = GainsProperPrefix before now text
PrintsText text refusal NoMemory before now = (now ≡ before) ⊎ GainsProperPrefix before now text
PrintsText text refusal (BadWord place) before now = ⊥
PrintsText text refusal (CouldNotReadFile path) before now = ⊥
PrintsText text refusal DataFault before now = ⊥

-- the settings were printed by what each profile file has by itself; the files are at these paths
abbrev pub PrintsOwns : List ℕ → OptionValues → List (List ℕ × List ℕ) → List Own → Status → Option (List ℕ) → Option (List ℕ) → Type 0
PrintsOwns paths options env owns =
    PrintsText (settings_text paths (used_settings options env owns)) (settings_refusal paths (used_settings options env owns))

-- nothing was written, for this reason or since memory ran out
abbrev pub PrintsNothing : SignRefusal → Status → Option (List ℕ) → Option (List ℕ) → Type 0
PrintsNothing refusal (Refused fault) before now = (refusal ≡ refusal_of fault) × (now ≡ before)
PrintsNothing refusal NoMemory before now = now ≡ before
PrintsNothing refusal status before now = ⊥

-- the settings were printed by what each profile file has by itself, or a file has a faulty line
abbrev pub PrintsBy : List ℕ → OptionValues → List (List ℕ × List ℕ) → Result (List Own) Lack → Status → Option (List ℕ) → Option (List ℕ) → Type 0
PrintsBy paths options env (Ok owns) status before now = PrintsOwns paths options env owns status before now
PrintsBy paths options env (Err lack) status before now = PrintsNothing (lack_refusal paths lack) status before now

-- the settings were printed by the texts of profile files
abbrev pub PrintsFiles : OptionValues → List (List ℕ × List ℕ) → List FileText → Status → Option (List ℕ) → Option (List ℕ) → Type 0
PrintsFiles options env files = PrintsBy (file_paths files) options env (own_profiles (asked_profile options env) files)

-- a file couldn't be read, at a path that `unread` tells of, or memory ran out
abbrev pub IsUnreadStatus : (List ℕ → Type 0) → Status → Type 0
IsUnreadStatus unread (CouldNotReadFile path) = unread (string_bytes path)
IsUnreadStatus unread NoMemory = Unit {0}
IsUnreadStatus unread status = ⊥

-- the settings were printed by texts of files that `gave` tells of, or these aren't there and nothing was written
abbrev pub RanSettings : (List FileText → Type 0) → (List ℕ → Type 0) → OptionValues → List (List ℕ × List ℕ) → Status → Option (List ℕ) → Option (List ℕ) → Type 0
RanSettings gave unread options env status before now =
    ((files : List FileText) × gave files × PrintsFiles options env files status before now) ⊎ (IsUnreadStatus unread status × (now ≡ before))
