-- What is said of how a run of `awsign chunk` ended, and the number that it ends with.
use Rattle.std.specs.Prelude.{◌⊎◌, ℕ, List, [], ◌++◌, codes, Option}
use Rattle.sigv4.specs.Error.{error_text}
use Rattle.aws_chunked.specs.Announcement.{announce_fault_text}
use Rattle.awsign_run.specs.Saying.{GainsSome, Says, tool_line}
use Rattle.awsign_run.specs.Status.{status_code}
use Rattle.awsign_chunk.specs.declared.status.ChunkStatus.{ChunkStatus}
use Rattle.awsign_chunk.specs.declared.status.ChunkStatus.TheVariants.{DataChanged, DataTooLong, Ended, FileFault, Unannounced, UnfitTrailer}

-- the number that the process ends with: that of other commands, nothing is signed, or the data is too long or has changed, or the file failed
abbrev pub chunk_status_code : ChunkStatus → ℕ
chunk_status_code (Ended status) = status_code status
chunk_status_code (UnfitTrailer error) = 1
chunk_status_code (Unannounced fault) = 1
chunk_status_code DataTooLong = 3
chunk_status_code DataChanged = 3
chunk_status_code FileFault = 3

-- the line of a status that other commands don't have
abbrev pub chunk_status_line : ChunkStatus → List ℕ
chunk_status_line (Ended status) = []
chunk_status_line (UnfitTrailer error) = tool_line (codes "a trailer can't be sent: " ++ error_text error)
chunk_status_line (Unannounced fault) = tool_line (codes "the body can't be announced: " ++ announce_fault_text fault)
chunk_status_line DataTooLong = tool_line (codes "the data has over 4294967295 bytes")
chunk_status_line DataChanged = tool_line (codes "the data changed while it was read")
chunk_status_line FileFault = tool_line (codes "could not write the file that --out names")

-- what was said: what is said of other commands, or the line, or that memory ran out
abbrev pub SaysChunk : List (List ℕ) → ChunkStatus → Option (List ℕ) → Option (List ℕ) → Type 0
SaysChunk words (Ended status) before now = Says words status before now
SaysChunk words status before now = GainsSome before now (chunk_status_line status) ⊎ GainsSome before now (tool_line (codes "no memory"))
