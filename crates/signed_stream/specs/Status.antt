-- How a run ends, as contracts see it: texts are lists of bytes.
use Rattle.std.specs.Prelude.{ℕ, List, Result, Ok, Err, string_bytes}
use Rattle.smithy_core.specs.Moment.{Instant}
use Rattle.sigv4.specs.declared.error.ValuePlace.{ValuePlace}
use Rattle.env_config.specs.ParseFault.{faulty_line_of}
use Rattle.env_config.specs.Sections.{FaultyLine}
use Rattle.env_config.specs.declared.load_fault.EnvConfigFileLoadError.{EnvConfigFileLoadError}
use Rattle.env_config.specs.declared.load_fault.EnvConfigFileLoadError.TheVariants as loads
use Rattle.signed_stream.specs.declared.settings.SettingsFault.{SettingsFault}
use Rattle.signed_stream.specs.declared.settings.SettingsFault.TheVariants as settings
use Rattle.chain_watch.specs.declared.chain_fault.ChainFault.{ChainFault}
use Rattle.chain_watch.specs.declared.chain_fault.ChainFault.TheVariants as chains
use Rattle.signed_stream.specs.declared.status.CheckFault.{CheckFault}
use Rattle.signed_stream.specs.declared.status.CheckFault.TheVariants as checks
use Rattle.signed_stream.specs.declared.status.Status.{Status}
use Rattle.signed_stream.specs.declared.status.Status.TheVariants as statuses
use Rattle.signed_stream.specs.declared.status.StreamFault.{StreamFault}
use Rattle.signed_stream.specs.declared.status.StreamFault.TheVariants as faults

-- why a stream is refused
pub data RunFault : Type 0 where
  -- this line of a profile file is outside the grammar
  parse_error : FaultyLine → RunFault
  missing_credentials : RunFault
  missing_signing_region : RunFault
  -- this moment lies outside the years 0 to 9999
  moment_out_of_range : Instant → RunFault
  invalid_uri : RunFault
  -- of the request's header at this place
  invalid_header_name : ℕ → RunFault
  invalid_header_value : ValuePlace → RunFault
  missing_host : RunFault
  invalid_token_name : RunFault
  missing_expires : RunFault
  -- of the event at this place
  invalid_header_name_length : ℕ → RunFault
  header_value_too_long : ℕ → RunFault
  timestamp_value_too_large : ℕ → RunFault
  headers_too_long : ℕ → RunFault
  payload_too_long : ℕ → RunFault
  message_too_long : ℕ → RunFault
  -- the sink failed
  sink_fault : RunFault
  -- memory ran out
  memory_fault : RunFault

-- how a run ends
pub data Ending : Type 0 where
  -- all was done
  done : Ending
  -- the word at this place
  bad_words : ℕ → Ending
  job_too_large : Ending
  -- the line at this place
  bad_job : ℕ → Ending
  read_fault : Ending
  -- the file at this path
  could_not_read_file : List ℕ → Ending
  refused : RunFault → Ending
  check_failed : CheckFault → Ending
  -- the output failed
  output_fault : Ending
  -- memory ran out, whatever for
  no_memory : Ending

-- what contracts see of a fault
abbrev pub run_fault : StreamFault → RunFault
run_fault (faults.ParseError error) = parse_error (faulty_line_of error)
run_fault faults.MissingCredentials = missing_credentials
run_fault faults.MissingSigningRegion = missing_signing_region
run_fault (faults.MomentOutOfRange moment) = moment_out_of_range moment
run_fault faults.InvalidUri = invalid_uri
run_fault (faults.InvalidHeaderName place) = invalid_header_name place
run_fault (faults.InvalidHeaderValue place) = invalid_header_value place
run_fault faults.MissingHost = missing_host
run_fault faults.InvalidTokenName = invalid_token_name
run_fault faults.MissingExpires = missing_expires
run_fault (faults.InvalidHeaderNameLength place) = invalid_header_name_length place
run_fault (faults.HeaderValueTooLong place) = header_value_too_long place
run_fault (faults.TimestampValueTooLarge place) = timestamp_value_too_large place
run_fault (faults.HeadersTooLong place) = headers_too_long place
run_fault (faults.PayloadTooLong place) = payload_too_long place
run_fault (faults.MessageTooLong place) = message_too_long place
run_fault faults.SinkFault = sink_fault
run_fault faults.NoMemory = memory_fault

-- what contracts see of a status
abbrev pub ending_of : Status → Ending
ending_of statuses.Done = done
ending_of (statuses.BadWords place) = bad_words place
ending_of statuses.JobTooLarge = job_too_large
ending_of (statuses.BadJob place) = bad_job place
ending_of statuses.ReadFault = read_fault
ending_of (statuses.CouldNotReadFile path) = could_not_read_file (string_bytes path)
ending_of (statuses.Refused fault) = refused (run_fault fault)
ending_of (statuses.CheckFailed fault) = check_failed fault
ending_of statuses.OutputFault = output_fault
ending_of statuses.NoMemory = no_memory

-- how a run ends that a fault ends
abbrev pub stream_ending : StreamFault → Ending
stream_ending faults.SinkFault = output_fault
stream_ending faults.NoMemory = no_memory
stream_ending fault = refused (run_fault fault)

-- how a run ends with this answer
abbrev pub ended : {T : Type 0} → Result T StreamFault → Ending
ended (Ok _) = done
ended (Err fault) = stream_ending fault

-- how a run ends whose record isn't a chain
abbrev pub chain_ending : ChainFault → Ending
chain_ending chains.NoMemory = no_memory
chain_ending fault = check_failed (checks.Chain fault)

-- how a run ends whose files aren't loaded
abbrev pub load_ending : EnvConfigFileLoadError → Ending
load_ending (loads.ParseError error) = refused (parse_error (faulty_line_of error))
load_ending (loads.CouldNotReadFile fault) = could_not_read_file (string_bytes fault.path)
load_ending loads.NoMemory = no_memory

-- how a run ends whose settings aren't whole
abbrev pub settings_ending : SettingsFault → Ending
settings_ending (settings.ParseError error) = refused (parse_error (faulty_line_of error))
settings_ending settings.MissingCredentials = refused missing_credentials
settings_ending settings.MissingSigningRegion = refused missing_signing_region
settings_ending settings.NoMemory = no_memory

-- the number that the process ends with
abbrev pub exit_code : Ending → ℕ
exit_code done = 0
exit_code (bad_words place) = 2
exit_code job_too_large = 3
exit_code (bad_job place) = 4
exit_code read_fault = 5
exit_code (could_not_read_file path) = 6
exit_code (refused fault) = 7
exit_code (check_failed fault) = 8
exit_code output_fault = 9
exit_code no_memory = 10
