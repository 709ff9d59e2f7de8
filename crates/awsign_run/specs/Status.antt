-- How a run ends.
use Rattle.std.specs.Prelude.{ℕ}
use Rattle.env_config.specs.declared.load_fault.EnvConfigFileLoadError.{EnvConfigFileLoadError}
use Rattle.env_config.specs.declared.load_fault.EnvConfigFileLoadError.TheVariants.{CouldNotReadFile as Unloaded, ParseError as Unparsed, NoMemory as LoadNoMemory}
use Rattle.job_text.specs.declared.words.WordsFault.{WordsFault}
use Rattle.job_text.specs.declared.words.WordsFault.TheVariants.{BadWord as WordBad, NoMemory as WordNoMemory}
use Rattle.smithy_core.specs.declared.outside.read_all.ReadFault.{ReadFault}
use Rattle.smithy_core.specs.declared.outside.read_all.ReadFault.TheVariants.{Failed as ReadFailed, TooLarge, NoMemory as ReadNoMemory}
use Rattle.smithy_core.specs.declared.outside.sink.SinkError.{SinkError}
use Rattle.smithy_core.specs.declared.outside.sink.SinkError.TheVariants.{Failed as SinkFailed, NoMemory as SinkNoMemory}
use Rattle.awsign_run.specs.declared.fault.Fault.{Fault}
use Rattle.awsign_run.specs.declared.fault.Fault.TheVariants.{Profile, NoMemory as FaultNoMemory}
use Rattle.awsign_run.specs.declared.status.Status.{Status}
use Rattle.awsign_run.specs.declared.status.Status.TheVariants.{Done, BadWord, CouldNotReadFile, DataFault, Refused, OutputFault, NoMemory}

-- the number that the process ends with: all was printed, nothing is signed, a word is bad, or a file, the output or memory failed
abbrev pub status_code : Status → ℕ
status_code Done = 0
status_code (Refused fault) = 1
status_code (BadWord place) = 2
status_code (CouldNotReadFile path) = 3
status_code DataFault = 3
status_code OutputFault = 3
status_code NoMemory = 3

-- how a run ends with words that spell no command
abbrev pub words_status : WordsFault → Status
words_status (WordBad place) = BadWord place
words_status WordNoMemory = NoMemory

-- how a run ends whose profile files aren't loaded
abbrev pub load_status : EnvConfigFileLoadError → Status
load_status (Unparsed error) = Refused (Profile error)
load_status (Unloaded fault) = CouldNotReadFile fault.path
load_status LoadNoMemory = NoMemory

-- how a run ends whose data isn't read
abbrev pub read_status : ReadFault → Status
read_status ReadFailed = DataFault
read_status TooLarge = DataFault
read_status ReadNoMemory = NoMemory

-- how a run ends that signs nothing
abbrev pub fault_status : Fault → Status
fault_status FaultNoMemory = NoMemory
fault_status fault = Refused fault

-- how a run ends whose output isn't written
abbrev pub sink_status : SinkError → Status
sink_status SinkFailed = OutputFault
sink_status SinkNoMemory = NoMemory
