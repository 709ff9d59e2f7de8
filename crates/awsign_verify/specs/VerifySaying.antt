-- What is said of how a run of `awsign verify` ended, and its number.
use Rattle.std.specs.Prelude.{◌⊎◌, ℕ, List, [], ◌++◌, codes, Option}
use Rattle.std.specs.Fmt.{decimal}
use Rattle.request_door.specs.DoorFaults.{door_fault_text}
use Rattle.awsign_run.specs.Saying.{GainsSome, Says, tool_line}
use Rattle.awsign_run.specs.Status.{status_code}
use Rattle.awsign_run.specs.declared.status.Status.TheVariants.{OutputFault}
use Rattle.awsign_verify.specs.declared.status.VerifyStatus.{VerifyStatus}
use Rattle.awsign_verify.specs.declared.status.VerifyStatus.TheVariants.{BadLine, Ended, InputFault, TooLarge, Wrong}

-- the number that the process of `verify` ends with: that of other commands, the request isn't good, or the input failed
abbrev pub verify_code : VerifyStatus → ℕ
verify_code (Ended status) = status_code status
verify_code (BadLine place) = 1
verify_code (Wrong fault) = 1
verify_code InputFault = 3
verify_code TooLarge = 3

-- the line of a status that other commands don't have
abbrev pub verify_status_line : VerifyStatus → List ℕ
verify_status_line (Ended status) = []
verify_status_line (BadLine place) =
    tool_line (codes "line " ++ (decimal place ++ codes " of the request isn't understood: a first line has a method, a target and HTTP/1.1, the others a name and a colon"))
verify_status_line InputFault = tool_line (codes "could not read the request from standard input")
verify_status_line TooLarge = tool_line (codes "the request has over 67108864 bytes")
verify_status_line (Wrong fault) = tool_line (codes "the request isn't good: " ++ door_fault_text fault)

-- what was said: what is said of other commands, or the line, or that memory ran out; of the output, that it failed
abbrev pub SaysVerify : List (List ℕ) → VerifyStatus → Option (List ℕ) → Option (List ℕ) → Type 0
SaysVerify words (Ended OutputFault) before now = GainsSome before now (tool_line (codes "the output failed"))
SaysVerify words (Ended status) before now = Says words status before now
SaysVerify words status before now = GainsSome before now (verify_status_line status) ⊎ GainsSome before now (tool_line (codes "no memory"))
