-- How a run goes: what was read, and what the output gained.
use Rattle.std.specs.Prelude.{◌≡◌, ◌⊎◌, ℕ, List, true, false, [], ◌∷◌, ◌++◌, codes, map, Option, Some, None, option_map, Result, Ok, Err, string_bytes}
use Rattle.std.specs.Int.{w64}
use Rattle.std.specs.Global.{Vec}
use Rattle.std.specs.Option.{option_and_then}
use Rattle.smithy_core.specs.Moment.{Instant}
use Rattle.smithy_core.specs.Outside.{Gains, GainsProperPrefix}
use Rattle.smithy_core.specs.TextPairs.{last_value}
use Rattle.job_text.specs.Numbers.{number}
use Rattle.env_config.specs.Files.{At, Place, or_usual}
use Rattle.env_config.specs.Sections.{FileText}
use Rattle.env_config.specs.Source.{file_of}
use Rattle.env_config.specs.declared.load_fault.EnvConfigFileLoadError.{EnvConfigFileLoadError}
use Rattle.env_config.specs.declared.load_fault.EnvConfigFileLoadError.TheVariants.{CouldNotReadFile as Unloaded, ParseError, NoMemory as LoadNoMemory}
use Rattle.env_config.specs.declared.source.EnvConfigFileKind.{EnvConfigFileKind}
use Rattle.env_config.specs.declared.source.EnvConfigFileKind.TheVariants.{Config, Credentials}
use Rattle.env_config.specs.declared.source.Source.{Source}
use Rattle.awsign_run.specs.Signing.{DigestsAll, PrintsSigned}
use Rattle.awsign_words.specs.Words.{OptionValues, SignWanted, has}
use Rattle.awsign_run.specs.declared.status.Status.{Status}
use Rattle.awsign_run.specs.declared.status.Status.TheVariants.{Done, BadWord, CouldNotReadFile, DataFault, Refused, OutputFault, NoMemory}

-- ## Files

-- the file that an option names, where it does
abbrev pub named_place : EnvConfigFileKind → Option (List ℕ) → List Place
named_place kind None = []
named_place kind (Some path) = At kind path ∷ []

-- the profile files: those that options name, or else the default ones
abbrev pub asked_places : OptionValues → List Place
asked_places options = or_usual (named_place Config (last_value options (codes "--config")) ++ named_place Credentials (last_value options (codes "--credentials")))

-- the texts of the files and the name of the profile, or the first file that couldn't be read; `gave` says what the disk gave for the texts, and
-- `unread` for a path that couldn't be read
abbrev pub LoadsAsked : (List FileText → Type 0) → (List ℕ → Type 0) → List ℕ → Result Source EnvConfigFileLoadError → Type 0
LoadsAsked gave unread name (Ok source) = gave (map file_of source.files.items) × (string_bytes source.profile ≡ name)
LoadsAsked gave unread name (Err (Unloaded fault)) = unread (string_bytes fault.path)
LoadsAsked gave unread name (Err (ParseError error)) = ⊥
LoadsAsked gave unread name (Err LoadNoMemory) = Unit {0}

-- ## Data and moment

-- the digest of the data, where an option names some: all that its source had left, which is at its end now
abbrev pub Digests : OptionValues → Option (List ℕ) → Option (List ℕ) → Option (List ℕ) → Type 0
Digests options before now None = has options (codes "--data") ≡ false
Digests options before now (Some digest) = (has options (codes "--data") ≡ true) × DigestsAll before now digest

-- the moment that an option names
abbrev pub asked_moment : OptionValues → Option Instant
asked_moment options = option_map (λ secs. record { secs = secs; nanos = 0 }) (option_and_then (number w64) (last_value options (codes "--at")))

-- the moment of the signature: the one that is named, or else one of the clock
abbrev pub TakesAskedMoment : (List Instant → Type 0) → Option Instant → Instant → Type 0
TakesAskedMoment clock None at = clock (at ∷ [])
TakesAskedMoment clock (Some asked) at = (at ≡ asked) × clock []

-- ## The output

-- all of a text was written, or a part of it where the output failed or memory ran out
abbrev pub HasWritten : List ℕ → Status → Option (List ℕ) → Option (List ℕ) → Type 0
HasWritten text Done before now = Gains before now text
HasWritten text OutputFault before now = GainsProperPrefix before now text
HasWritten text NoMemory before now = GainsProperPrefix before now text
HasWritten text status before now = ⊥

-- ## The run

module _ (moment : Instant → Type 0) (sign_wanted : SignWanted) (env : List (List ℕ × List ℕ)) (files : List FileText) where
  -- the text of the signed request with these texts of profile files, this digest of the data and a moment that `moment` tells of, or why there is none
  abbrev pub GivesByDigest : Option (List ℕ) → Result (Vec ℕ) Status → Type 0
  GivesByDigest digest (Ok text) = (at : Instant) × moment at × PrintsSigned sign_wanted env files digest at (Ok text)
  GivesByDigest digest (Err (Refused fault)) = (at : Instant) × moment at × PrintsSigned sign_wanted env files digest at (Err fault)
  GivesByDigest digest (Err NoMemory) = Unit {0}
  GivesByDigest digest (Err status) = ⊥

module _ (digests : Option (List ℕ) → Type 0) (moment : Instant → Type 0) (sign_wanted : SignWanted) (env : List (List ℕ × List ℕ)) where
  -- the same with a digest that `digests` tells of, or the data couldn't be read
  abbrev pub GivesByFiles : List FileText → Result (Vec ℕ) Status → Type 0
  GivesByFiles files (Ok text) = (digest : Option (List ℕ)) × digests digest × GivesByDigest moment sign_wanted env files digest (Ok text)
  GivesByFiles files (Err (Refused fault)) = (digest : Option (List ℕ)) × digests digest × GivesByDigest moment sign_wanted env files digest (Err (Refused fault))
  GivesByFiles files (Err DataFault) = has sign_wanted.options (codes "--data") ≡ true
  GivesByFiles files (Err NoMemory) = Unit {0}
  GivesByFiles files (Err status) = ⊥

  module _ (gave : List FileText → Type 0) (unread : List ℕ → Type 0) where
    -- the same with texts of files that `gave` tells of, or a file couldn't be read, at a path that `unread` tells of
    abbrev pub GivesRunText : Result (Vec ℕ) Status → Type 0
    GivesRunText (Ok text) = (files : List FileText) × gave files × GivesByFiles files (Ok text)
    GivesRunText (Err (Refused fault)) = (files : List FileText) × gave files × GivesByFiles files (Err (Refused fault))
    GivesRunText (Err (CouldNotReadFile path)) = unread (string_bytes path)
    GivesRunText (Err DataFault) = has sign_wanted.options (codes "--data") ≡ true
    GivesRunText (Err NoMemory) = Unit {0}
    GivesRunText (Err status) = ⊥

    -- what the output gained: the text, or a part of it where the output failed or memory ran out; and nothing where there is none
    abbrev pub RanSigning : Status → Option (List ℕ) → Option (List ℕ) → Type 0
    RanSigning Done before now = (text : Vec ℕ) × GivesRunText (Ok text) × Gains before now text.items
    RanSigning OutputFault before now = (text : Vec ℕ) × GivesRunText (Ok text) × GainsProperPrefix before now text.items
    RanSigning NoMemory before now = (now ≡ before) ⊎ ((text : Vec ℕ) × GivesRunText (Ok text) × GainsProperPrefix before now text.items)
    RanSigning (Refused fault) before now = GivesRunText (Err (Refused fault)) × (now ≡ before)
    RanSigning (CouldNotReadFile path) before now = GivesRunText (Err (CouldNotReadFile path)) × (now ≡ before)
    RanSigning DataFault before now = GivesRunText (Err DataFault) × (now ≡ before)
    RanSigning (BadWord place) before now = ⊥
