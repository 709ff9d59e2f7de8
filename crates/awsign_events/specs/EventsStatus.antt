-- How faults end a run of `awsign events`, and its number.
use Rattle.std.specs.Prelude.{ℕ}
use Rattle.job_text.specs.declared.fault.JobFault.{JobFault}
use Rattle.job_text.specs.declared.fault.JobFault.TheVariants as job
use Rattle.chain_watch.specs.declared.chain_fault.ChainFault.{ChainFault}
use Rattle.chain_watch.specs.declared.chain_fault.ChainFault.TheVariants as chain
use Rattle.smithy_core.specs.declared.outside.read_all.ReadFault.{ReadFault}
use Rattle.smithy_core.specs.declared.outside.read_all.ReadFault.TheVariants as read
use Rattle.awsign_run.specs.Status.{status_code}
use Rattle.awsign_run.specs.declared.status.Status.TheVariants.{NoMemory}
use Rattle.awsign_events.specs.declared.status.EventsStatus.{EventsStatus}
use Rattle.awsign_events.specs.declared.status.EventsStatus.TheVariants.{BadLine, CutShort, Ended, InputFault, TooLarge, Unframed, Unspelled, Unverified, WrongFrame}

-- the number that the process of `events` ends with
abbrev pub events_code : EventsStatus → ℕ
events_code (Ended status) = status_code status
events_code (WrongFrame place error) = 1
events_code (CutShort place) = 1
events_code (Unspelled place) = 1
events_code (Unverified fault) = 1
events_code (BadLine place) = 1
events_code (Unframed place error) = 1
events_code InputFault = 3
events_code TooLarge = 3

-- how a run ends whose input isn't read
abbrev pub read_events_status : ReadFault → EventsStatus
read_events_status read.Failed = InputFault
read_events_status read.TooLarge = TooLarge
read_events_status read.NoMemory = Ended NoMemory

-- how a run ends whose input has a bad line
abbrev pub line_status : JobFault → EventsStatus
line_status (job.BadLine place) = BadLine place
line_status job.NoMemory = Ended NoMemory

-- how a run ends at a fault of the chain
abbrev pub chain_status : ChainFault → EventsStatus
chain_status chain.NoMemory = Ended NoMemory
chain_status fault = Unverified fault
