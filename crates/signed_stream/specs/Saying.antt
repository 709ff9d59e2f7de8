-- What a run says of its end.
use Rattle.std.specs.Prelude.{◌≡◌, ℕ, ◌⊎◌, List, [], ◌++◌, codes, Option}
use Rattle.std.specs.Fmt.{decimal}
use Rattle.smithy_core.specs.Outside.{Gains, GainsPrefix, GainsProperPrefix, RoseOrStands}
use Rattle.smithy_core.specs.Text.{line}
use Rattle.chain_watch.specs.declared.chain_fault.ChainFault.TheVariants.{NotChain, Mismatch, NoMemory}
use Rattle.chain_watch.specs.ChainFault.{chain_part_name}
use Rattle.signed_stream.specs.declared.status.CheckFault.{CheckFault}
use Rattle.signed_stream.specs.declared.status.CheckFault.TheVariants.{NoSignature, Chain}
use Rattle.signed_stream.specs.Status.{Ending, done, bad_words, job_too_large, bad_job, read_fault, could_not_read_file, refused, check_failed, output_fault, no_memory, RunFault, parse_error, missing_credentials, missing_signing_region, moment_out_of_range, invalid_uri, invalid_header_name, invalid_header_value, missing_host, invalid_token_name, missing_expires, invalid_header_name_length, header_value_too_long, timestamp_value_too_large, headers_too_long, payload_too_long, message_too_long, sink_fault, memory_fault}

-- the number and the name of a fault
abbrev pub run_fault_text : RunFault → List ℕ
run_fault_text (parse_error line) = codes "1 ParseError"
run_fault_text missing_credentials = codes "2 MissingCredentials"
run_fault_text missing_signing_region = codes "3 MissingSigningRegion"
run_fault_text (moment_out_of_range moment) = codes "4 MomentOutOfRange"
run_fault_text invalid_uri = codes "5 InvalidUri"
run_fault_text (invalid_header_name place) = codes "6 InvalidHeaderName"
run_fault_text (invalid_header_value place) = codes "7 InvalidHeaderValue"
run_fault_text missing_host = codes "8 MissingHost"
run_fault_text invalid_token_name = codes "9 InvalidTokenName"
run_fault_text missing_expires = codes "10 MissingExpires"
run_fault_text (invalid_header_name_length place) = codes "11 InvalidHeaderNameLength"
run_fault_text (header_value_too_long place) = codes "12 HeaderValueTooLong"
run_fault_text (timestamp_value_too_large place) = codes "13 TimestampValueTooLarge"
run_fault_text (headers_too_long place) = codes "14 HeadersTooLong"
run_fault_text (payload_too_long place) = codes "15 PayloadTooLong"
run_fault_text (message_too_long place) = codes "16 MessageTooLong"
run_fault_text sink_fault = codes "17 SinkFault"
run_fault_text memory_fault = codes "18 NoMemory"

-- the frame that isn't as in a chain, and what of it; the request counts as frame 0
abbrev pub failed_at : CheckFault → ℕ × List ℕ
failed_at NoSignature = (0, codes "NoSignature")
failed_at (Chain (NotChain frame part)) = (frame, chain_part_name part)
failed_at (Chain (Mismatch frame carried recomputed)) = (frame, codes "Mismatch")
failed_at (Chain NoMemory) = (0, codes "NoMemory")

-- the line of an end, and nothing where the run is done
abbrev pub ending_line : Ending → List ℕ
ending_line done = []
ending_line (bad_words place) = line (codes "bad word " ++ decimal place)
ending_line job_too_large = line (codes "input over 67108864 bytes")
ending_line (bad_job place) = line (codes "bad line " ++ decimal place)
ending_line read_fault = line (codes "read fault")
ending_line (could_not_read_file path) = line (codes "could not read file " ++ path)
ending_line (refused fault) = line (codes "refused " ++ run_fault_text fault)
ending_line (check_failed fault) = line (codes "check failed at frame " ++ (decimal (failed_at fault).0 ++ (codes " " ++ (failed_at fault).1)))
ending_line output_fault = line (codes "output fault")
ending_line no_memory = line (codes "no memory")

-- what `err` gained: nothing where the run is done, a prefix of the line of some end where memory runs out, and else the line of the
-- end, or, where the faults of `err` rose, a prefix of it
abbrev pub SaysEnding : Ending → Option (List ℕ) → Option (List ℕ) → ℕ → ℕ → Type 0
SaysEnding done before now faults_before faults_now = now ≡ before
SaysEnding no_memory before now faults_before faults_now = (end : Ending) × GainsPrefix before now (ending_line end)
SaysEnding end before now faults_before faults_now =
    Gains before now (ending_line end) ⊎ (GainsProperPrefix before now (ending_line end) × RoseOrStands faults_before faults_now)
