-- What is said of how a run of `awsign events` ended.
use Rattle.std.specs.Prelude.{◌⊎◌, ℕ, List, [], ◌++◌, codes, Option}
use Rattle.std.specs.Fmt.{decimal}
use Rattle.eventstream.specs.Error.{error_kind, error_kind_text}
use Rattle.chain_watch.specs.ChainFault.{chain_fault_text}
use Rattle.awsign_run.specs.Saying.{GainsSome, Says, tool_line}
use Rattle.awsign_events.specs.declared.status.EventsStatus.{EventsStatus}
use Rattle.awsign_events.specs.declared.status.EventsStatus.TheVariants.{BadLine, CutShort, Ended, InputFault, TooLarge, Unframed, Unspelled, Unverified, WrongFrame}

-- the line of a status that other commands don't have
abbrev pub events_status_line : EventsStatus → List ℕ
events_status_line (Ended status) = []
events_status_line (WrongFrame place error) = tool_line (codes "frame " ++ (decimal place ++ (codes ": " ++ error_kind_text (error_kind error))))
events_status_line (CutShort place) = tool_line (codes "frame " ++ (decimal place ++ codes ": the input ends within it"))
events_status_line (Unspelled place) = tool_line (codes "frame " ++ (decimal place ++ codes ": lines can't spell one of its headers; --as json can"))
events_status_line (Unverified fault) = tool_line (codes "the chain isn't good: " ++ chain_fault_text fault)
events_status_line (BadLine place) = tool_line (codes "line " ++ (decimal place ++ codes " of the input isn't understood"))
events_status_line (Unframed place error) = tool_line (codes "event " ++ (decimal place ++ (codes ": " ++ error_kind_text (error_kind error))))
events_status_line InputFault = tool_line (codes "could not read standard input")
events_status_line TooLarge = tool_line (codes "the input has over 67108864 bytes")

-- what was said of how a run ended: what is said of other commands, or its own line, or that memory ran out
abbrev pub SaysEvents : List (List ℕ) → EventsStatus → Option (List ℕ) → Option (List ℕ) → Type 0
SaysEvents words (Ended status) before now = Says words status before now
SaysEvents words status before now = GainsSome before now (events_status_line status) ⊎ GainsSome before now (tool_line (codes "no memory"))
