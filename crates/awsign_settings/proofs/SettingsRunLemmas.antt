-- A run of `awsign settings`.
use Rattle.std.proofs.Common.{◌≡◌, ℕ, Bool, true, false, if◌then◌else◌, List, Option, Some, None, option_map, refl}
use Rattle.std.specs.Prelude.{IfSome, Result, Ok, Err}
use Rattle.env_config.specs.Sections.{FileText}
use Rattle.env_config.specs.declared.load_fault.EnvConfigFileLoadError.{EnvConfigFileLoadError}
use Rattle.env_config.specs.declared.load_fault.EnvConfigFileLoadError.TheVariants as load
use Rattle.aws_settings.specs.Choice.{ChosenSettings, Lack}
use Rattle.awsign_words.specs.Words.{OptionValues}
use Rattle.awsign_run.specs.Chosen.{as_refused, empty_region, lack_refusal, refusal_of}
use Rattle.awsign_run.specs.Run.{LoadsAsked}
use Rattle.awsign_run.specs.Status.{load_status}
use Rattle.awsign_run.specs.declared.fault.Fault.{Fault}
use Rattle.awsign_run.specs.declared.status.Status.TheVariants.{NoMemory, Refused}
use Rattle.awsign_settings.specs.Own.{Own}
use Rattle.awsign_settings.specs.Settings.{lack_of}
use Rattle.awsign_settings.specs.SettingsRun.{IsUnreadStatus, PrintsBy, refusal_in}

-- profile files that aren't loaded
pub files_unread : (gave : List FileText → Type 0) (unread : List ℕ → Type 0) (name : List ℕ) (error : EnvConfigFileLoadError) → LoadsAsked gave unread name (Err error)
    → IsUnreadStatus unread (load_status error)
files_unread gave unread name (load.CouldNotReadFile fault) is = is
files_unread gave unread name (load.ParseError error) is = elim is [ ]
files_unread gave unread name load.NoMemory is = tt

module _ (paths : List ℕ) (options : OptionValues) (env : List (List ℕ × List ℕ)) (held : Option (List ℕ)) where
  lacks_by : (planned : Result (List Own) Lack) (found : Option Lack) (made : Fault) → IfSome found (λ lack. planned ≡ Err lack)
      → Some (refusal_of made) ≡ option_map (lack_refusal paths) found → PrintsBy paths options env planned (Refused made) held held
  lacks_by planned None made is refuses = absurd cc
  lacks_by planned (Some lack) made is refuses =
      let same : refusal_of made ≡ lack_refusal paths lack = cc in
      rw (is, same) (refl, refl)

-- ## What can be signed

refused_by : (paths : List ℕ) (choice : Result ChosenSettings Lack) (lack : Lack) → lack_of choice ≡ Some lack → refusal_in (as_refused paths choice) ≡ Some (lack_refusal paths lack)
refused_by paths (Ok settings) lack is = absurd cc
refused_by paths (Err other) lack is = let same : other ≡ lack = cc in rw same refl

tested : (empty : Bool) (settings : ChosenSettings) → refusal_in (if empty then Err empty_region else Ok settings) ≡ (if empty then Some empty_region else None)
tested true settings = refl
tested false settings = refl
