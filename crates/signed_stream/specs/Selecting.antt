-- What is answered where profile files and variables are to select a profile, a region and a key.
use Rattle.std.specs.Prelude.{◌≡◌, ℕ, List, Result, Ok, Err, string_bytes}
use Rattle.env_config.specs.Files.{Place}
use Rattle.env_config.specs.ParseFault.{faulty_line_of}
use Rattle.job_text.specs.ProfileTexts.{ProfileTexts}
use Rattle.signed_stream.specs.Plan.{FilesRead}
use Rattle.signed_stream.specs.ProfileOptions.{ProfileWanted}
use Rattle.signed_stream.specs.Settings.{Selected, selected_in}
use Rattle.signed_stream.specs.Sources.{selection, source_places}
use Rattle.signed_stream.specs.Status.{Ending, could_not_read_file, missing_credentials, missing_signing_region, no_memory, parse_error, refused}
use Rattle.signed_stream.specs.declared.settings.Settings.{Settings}
use Rattle.signed_stream.specs.declared.sources.SelectFault.{SelectFault}
use Rattle.signed_stream.specs.declared.sources.SelectFault.TheVariants.{CouldNotReadFile, ParseError, MissingCredentials, MissingSigningRegion, NoMemory}

-- how a run ends for which nothing is selected
abbrev pub selection_ending : SelectFault → Ending
selection_ending (CouldNotReadFile path) = could_not_read_file (string_bytes path)
selection_ending (ParseError error) = refused (parse_error (faulty_line_of error))
selection_ending MissingCredentials = refused missing_credentials
selection_ending MissingSigningRegion = refused missing_signing_region
selection_ending NoMemory = no_memory

-- the settings are what is selected, or the run ends so
abbrev pub AnswersSettings : Result Selected Ending → Result Settings SelectFault → Type 0
AnswersSettings outcome (Ok settings) = outcome ≡ Ok (selected_in settings)
AnswersSettings outcome (Err fault) = outcome ≡ Err (selection_ending fault)

-- there is what the disk gave for the files that are named and these texts, and what it selects is answered
abbrev pub Selects : (List Place → FilesRead → Type 0) → List (List ℕ × List ℕ) → ProfileWanted → ProfileTexts → Result Settings SelectFault → Type 0
Selects gave env wanted texts result =
    (files : FilesRead) × gave (source_places wanted.files texts) files × AnswersSettings (selection env wanted.service_id files) result
