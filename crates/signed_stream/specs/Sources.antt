-- The profile texts of a run: the files that words name, in the order of the words, and then the texts of the input; where there is none of both, the two
-- default files.
use Rattle.std.specs.Prelude.{ℕ, List, ◌++◌, Result, Ok, Err, Option, option_map}
use Rattle.std.specs.Global.{Vec}
use Rattle.std.specs.Option.{option_to_list}
use Rattle.smithy_core.specs.declared.outside.disk.DiskError.{DiskError}
use Rattle.env_config.specs.Files.{Given, Place, or_usual}
use Rattle.env_config.specs.Loading.{Loaded, StopsAtFile, selected_profile}
use Rattle.env_config.specs.declared.source.EnvConfigFileKind.{EnvConfigFileKind}
use Rattle.env_config.specs.declared.source.EnvConfigFileKind.TheVariants.{Config, Credentials}
use Rattle.signed_stream.specs.Plan.{FilesRead, Plan, loaded, stops, unloaded, unreadable}
use Rattle.job_text.specs.ProfileTexts.{ProfileTexts}
use Rattle.signed_stream.specs.Settings.{Selected, settings}
use Rattle.signed_stream.specs.Status.{Ending, RunFault, could_not_read_file, no_memory, refused}

-- ## Where texts come from

-- a text of the input, where there is one
abbrev pub given_place : EnvConfigFileKind → Option (List ℕ) → List Place
given_place kind text = option_to_list (option_map (Given kind) text)

-- the texts of the input, config first
abbrev pub given_places : ProfileTexts → List Place
given_places texts = given_place Config texts.config ++ given_place Credentials texts.credentials

-- the files that are named, and then the texts of the input, or else the default files
abbrev pub source_places : List Place → ProfileTexts → List Place
source_places named texts = or_usual (named ++ given_places texts)

-- ## What the disk gave

-- What a disk gave for these places while it went from the one state to the other: the texts of all, or the path of the first file that couldn't be read.
-- `answers` is the disk's own relation of one read, `faults` its count of faults, and `files` what it shows of its files.
abbrev pub DiskGives : {D : Type 0} → (D → List ℕ → Result (Vec ℕ) DiskError → D → Type 0) → (D → ℕ) → Option (List (List ℕ × List ℕ)) → List (List ℕ × List ℕ) → D → D → List Place → FilesRead → Type 0
DiskGives answers faults files env before now places unloaded = Unit {0}
DiskGives answers faults files env before now places (loaded texts) = Loaded answers faults files env places before now texts
DiskGives answers faults files env before now places (unreadable path) = StopsAtFile answers faults files env places before now path

-- ## What is selected

-- how a run ends that is refused
abbrev pub or_refused : Result Selected RunFault → Result Selected Ending
or_refused (Ok selected) = Ok selected
or_refused (Err fault) = Err (refused fault)

-- what files and variables select for a service, or how the run ends without it
abbrev pub selection : List (List ℕ × List ℕ) → Option (List ℕ) → FilesRead → Result Selected Ending
selection env service_id unloaded = Err no_memory
selection env service_id (unreadable path) = Err (could_not_read_file path)
selection env service_id (loaded texts) = or_refused (settings texts (selected_profile env) env service_id)

-- a plan with what is selected
abbrev pub when_selected : (Selected → Plan) → Result Selected Ending → Plan
when_selected others (Ok selected) = others selected
when_selected others (Err end) = stops end
