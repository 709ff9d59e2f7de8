-- Who signs, and for which region and service: options count first.
use Rattle.std.specs.Prelude.{◌≡◌, ◌⊎◌, ◌==◌, ℕ, if◌then◌else◌, List, [], codes, length, Option, Some, None, unwrap_or, Result, Ok, Err, string_bytes}
use Rattle.std.specs.List.{join_by}
use Rattle.std.specs.Option.{option_or}
use Rattle.smithy_core.specs.TextPairs.{last_value}
use Rattle.env_config.specs.ParseFault.{faulty_line_of}
use Rattle.env_config.specs.Sections.{FileText, sections}
use Rattle.aws_settings.specs.Choice.{ChosenKey, ChosenSettings, Lack, choice_by, faulty, key_in, no_key, no_region, no_secret, profile_name, profile_of}
use Rattle.sigv4.specs.declared.error.SigningError.{SigningError}
use Rattle.awsign_words.specs.Words.{OptionValues, has}
use Rattle.eventstream.specs.Key.{Signer}
use Rattle.awsign_run.specs.Guess.{guessed_service}
use Rattle.awsign_run.specs.declared.chosen.Chosen.{Chosen}
use Rattle.awsign_run.specs.declared.fault.Fault.{Fault}
use Rattle.awsign_run.specs.declared.fault.Fault.TheVariants.{Profile, MissingKey, MissingSecret, MissingRegion, EmptyRegion, MissingService, EmptyService, LongExpiry, AlreadyPresigned, Signing, NoMemory}

-- ## Profile files

-- the path of a profile file, where it has one
abbrev pub file_path : FileText → List ℕ
file_path file = unwrap_or file.path []

-- the paths of profile files, with commas between them
abbrev pub file_paths : List FileText → List ℕ
file_paths files = join_by file_path (codes ", ") files

-- ## Refusals

-- why nothing is signed
pub data SignRefusal : Type 0 where
  -- there are no settings
  lacking : Lack → SignRefusal
  -- no variable counts, and the profile of this name has no key id or no secret in the files at these paths
  missing_key : List ℕ → List ℕ → SignRefusal
  -- the region is empty
  empty_region : SignRefusal
  -- no place names the service
  missing_service : SignRefusal
  -- the service's name is empty
  empty_service : SignRefusal
  -- a presigned URL would be good for more than seven days
  long_expiry : SignRefusal
  -- the URL that was to be presigned is presigned already
  presigned_already : SignRefusal
  -- the request can't be signed
  unsigned : SigningError → SignRefusal
  -- memory ran out
  out_of_memory : SignRefusal

-- why nothing is signed, as contracts see a fault
abbrev pub refusal_of : Fault → SignRefusal
refusal_of (Profile error) = lacking (faulty (faulty_line_of error))
refusal_of (MissingKey profile files) = missing_key (string_bytes profile) (string_bytes files)
refusal_of MissingSecret = lacking no_secret
refusal_of (MissingRegion profile) = lacking (no_region (string_bytes profile))
refusal_of EmptyRegion = empty_region
refusal_of MissingService = missing_service
refusal_of EmptyService = empty_service
refusal_of LongExpiry = long_expiry
refusal_of AlreadyPresigned = presigned_already
refusal_of (Signing error) = unsigned error
refusal_of NoMemory = out_of_memory

-- this is why, or memory ran out
abbrev pub IsFaultOf : {A : Type 0} → Result A SignRefusal → Fault → Type 0
IsFaultOf planned fault = (planned ≡ Err (refusal_of fault)) ⊎ (fault ≡ NoMemory)

-- why nothing is signed where this lacks; the files at these paths were looked at
abbrev pub lack_refusal : List ℕ → Lack → SignRefusal
lack_refusal paths (no_key profile) = missing_key profile paths
lack_refusal paths lack = lacking lack

-- an empty text is refused, and else this is the answer
abbrev pub unless_empty : {A : Type 0} → List ℕ → SignRefusal → A → Result A SignRefusal
unless_empty text refusal answer = if length text == 0 then Err refusal else Ok answer

-- ## The order of the sources

-- the name of the profile that counts
abbrev pub asked_profile : OptionValues → List (List ℕ × List ℕ) → List ℕ
asked_profile options env = profile_name (last_value options (codes "--profile")) env

-- the service: the option, or `s3` where its settings are asked for, or the one that the host names
abbrev pub chosen_service : OptionValues → List ℕ → Option (List ℕ)
chosen_service options host =
    option_or (option_or (last_value options (codes "--service")) (if has options (codes "--s3") then Some (codes "s3") else None)) (guessed_service host)

-- who signs, for which region and service
pub record SignsFor : Type 0 where
  pub key : ChosenKey
  pub region : List ℕ
  pub service : List ℕ

-- settings whose region isn't empty; what lacks is a refusal, and the files at these paths were looked at
abbrev pub as_refused : List ℕ → Result ChosenSettings Lack → Result ChosenSettings SignRefusal
as_refused paths (Ok settings) = unless_empty settings.region empty_region settings
as_refused paths (Err lack) = Err (lack_refusal paths lack)

-- who signs, where all is there; what settings lack counts first, and then the service
abbrev pub signs_for : Result ChosenSettings SignRefusal → Option (List ℕ) → Result SignsFor SignRefusal
signs_for (Err refusal) service = Err refusal
signs_for (Ok settings) None = Err missing_service
signs_for (Ok settings) (Some service) = unless_empty service empty_service (record { key = settings.key; region = settings.region; service = service })

-- who signs for a host, by these options, variables and texts of profile files, where this is the profile's name
abbrev pub signer_by : OptionValues → List ℕ → List (List ℕ × List ℕ) → List ℕ → List FileText → Result SignsFor SignRefusal
signer_by options host env name files =
    signs_for (as_refused (file_paths files) (choice_by (has options (codes "--profile")) (last_value options (codes "--region")) env (profile_of (sections files) name)))
    (chosen_service options host)

-- what contracts see of who signs
abbrev pub signs_for_of : Chosen → SignsFor
signs_for_of chosen = record {
  key = key_in chosen.credentials;
  region = string_bytes chosen.region;
  service = string_bytes chosen.service;
}

-- who signs chunks and frames
abbrev pub who_signs : SignsFor → Signer
who_signs signs = record { secret = signs.key.secret; region = signs.region; name = signs.service }

-- this is who signs, or why nobody does
abbrev pub GivesSigner : Result SignsFor SignRefusal → Result Chosen Fault → Type 0
GivesSigner planned (Ok chosen) = planned ≡ Ok (signs_for_of chosen)
GivesSigner planned (Err fault) = IsFaultOf planned fault
