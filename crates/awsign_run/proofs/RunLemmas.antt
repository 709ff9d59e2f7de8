-- How a run goes.
use Rattle.std.proofs.Common.{◌≡◌, ℕ, true, inl, inr, List, Option, codes, refl}
use Rattle.std.specs.Prelude.{Result, Ok, Err}
use Rattle.std.specs.Global.{Vec}
use Rattle.smithy_core.specs.Moment.{Instant}
use Rattle.smithy_core.specs.declared.outside.read_all.ReadFault.{ReadFault}
use Rattle.smithy_core.specs.declared.outside.read_all.ReadFault.TheVariants.{Failed as ReadFailed, TooLarge, NoMemory as ReadNoMemory}
use Rattle.env_config.specs.Sections.{FileText}
use Rattle.env_config.specs.declared.load_fault.EnvConfigFileLoadError.{EnvConfigFileLoadError}
use Rattle.env_config.specs.declared.load_fault.EnvConfigFileLoadError.TheVariants.{CouldNotReadFile as Unloaded, ParseError as Unparsed, NoMemory as LoadNoMemory}
use Rattle.awsign_run.specs.Run.{GivesByDigest, GivesByFiles, GivesRunText, HasWritten, LoadsAsked, RanSigning}
use Rattle.awsign_run.specs.Signing.{PrintsSigned}
use Rattle.awsign_run.specs.Status.{fault_status, load_status, read_status}
use Rattle.awsign_words.specs.Words.{SignWanted, has}
use Rattle.awsign_run.specs.declared.fault.Fault.{Fault}
use Rattle.awsign_run.specs.declared.fault.Fault.TheVariants.{NoMemory as FaultNoMemory}
use Rattle.awsign_run.specs.declared.status.Status.{Status}
use Rattle.awsign_run.specs.declared.status.Status.TheVariants.{Done, BadWord, CouldNotReadFile, DataFault, Refused, OutputFault, NoMemory}

module _ (moment : Instant → Type 0) (sign_wanted : SignWanted) (env : List (List ℕ × List ℕ)) (files : List FileText) (digest : Option (List ℕ)) (at : Instant) where
  -- a text that was made at a moment
  pub moment_given : (text : Vec ℕ) → moment at → PrintsSigned sign_wanted env files digest at (Ok text) → GivesByDigest moment sign_wanted env files digest (Ok text)
  moment_given text is prints = (at, is, prints)

  -- a text that is refused
  pub text_refused : (fault : Fault) → moment at → PrintsSigned sign_wanted env files digest at (Err fault) → GivesByDigest moment sign_wanted env files digest (Err (fault_status fault))
  text_refused FaultNoMemory is prints = tt
  text_refused fault is prints = (at, is, prints)

module _ (digests : Option (List ℕ) → Type 0) (moment : Instant → Type 0) (sign_wanted : SignWanted) (env : List (List ℕ × List ℕ)) (files : List FileText) where
  -- what is given by a digest is given
  pub digest_given : (digest : Option (List ℕ)) (result : Result (Vec ℕ) Status) → digests digest → GivesByDigest moment sign_wanted env files digest result
      → GivesByFiles digests moment sign_wanted env files result
  digest_given digest (Ok text) is gives = (digest, is, gives)
  digest_given digest (Err (Refused fault)) is gives = (digest, is, gives)
  digest_given digest (Err NoMemory) is gives = tt
  digest_given digest (Err Done) is gives = absurd gives
  digest_given digest (Err (BadWord place)) is gives = absurd gives
  digest_given digest (Err (CouldNotReadFile path)) is gives = absurd gives
  digest_given digest (Err DataFault) is gives = absurd gives
  digest_given digest (Err OutputFault) is gives = absurd gives

  -- the data couldn't be read
  pub data_unread : (fault : ReadFault) → has sign_wanted.options (codes "--data") ≡ true → GivesByFiles digests moment sign_wanted env files (Err (read_status fault))
  data_unread ReadFailed named = named
  data_unread TooLarge named = named
  data_unread ReadNoMemory named = tt

module _ (digests : Option (List ℕ) → Type 0) (moment : Instant → Type 0) (sign_wanted : SignWanted) (env : List (List ℕ × List ℕ)) (gave : List FileText → Type 0) (unread : List ℕ → Type 0) where
  -- what is given by the texts of files is given
  pub files_given : (files : List FileText) (result : Result (Vec ℕ) Status) → gave files → GivesByFiles digests moment sign_wanted env files result
      → GivesRunText digests moment sign_wanted env gave unread result
  files_given files (Ok text) is gives = (files, is, gives)
  files_given files (Err (Refused fault)) is gives = (files, is, gives)
  files_given files (Err DataFault) is gives = gives
  files_given files (Err NoMemory) is gives = tt
  files_given files (Err Done) is gives = absurd gives
  files_given files (Err (BadWord place)) is gives = absurd gives
  files_given files (Err (CouldNotReadFile path)) is gives = absurd gives
  files_given files (Err OutputFault) is gives = absurd gives

  -- the files couldn't be read
  pub files_unread : (name : List ℕ) (fault : EnvConfigFileLoadError) → LoadsAsked gave unread name (Err fault) → GivesRunText digests moment sign_wanted env gave unread (Err (load_status fault))
  files_unread name (Unloaded fault) loads = loads
  files_unread name (Unparsed error) loads = absurd loads
  files_unread name LoadNoMemory loads = tt

  -- a text is written
  pub ran_text : (text : Vec ℕ) (status : Status) (before now : Option (List ℕ)) → GivesRunText digests moment sign_wanted env gave unread (Ok text) → HasWritten text.items status before now
      → RanSigning digests moment sign_wanted env gave unread status before now
  ran_text text Done before now gives wrote = (text, gives, wrote)
  ran_text text OutputFault before now gives wrote = (text, gives, wrote)
  ran_text text NoMemory before now gives wrote = inr (text, gives, wrote)
  ran_text text (Refused fault) before now gives wrote = absurd wrote
  ran_text text (BadWord place) before now gives wrote = absurd wrote
  ran_text text (CouldNotReadFile path) before now gives wrote = absurd wrote
  ran_text text DataFault before now gives wrote = absurd wrote

  -- there is no text
  pub ran_without : (status : Status) (before : Option (List ℕ)) → GivesRunText digests moment sign_wanted env gave unread (Err status)
      → RanSigning digests moment sign_wanted env gave unread status before before
  ran_without (Refused fault) before gives = (gives, refl)
  ran_without (CouldNotReadFile path) before gives = (gives, refl)
  ran_without DataFault before gives = (gives, refl)
  ran_without NoMemory before gives = inl refl
  ran_without Done before gives = absurd gives
  ran_without (BadWord place) before gives = absurd gives
  ran_without OutputFault before gives = absurd gives
