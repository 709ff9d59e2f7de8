-- How a check of a presigned URL ends, as contracts see it: texts are lists of bytes.
use Rattle.std.specs.Prelude.{◌≡◌, ℕ, List, codes, string_bytes}
use Rattle.presign_check.specs.Faults.{IsSamePresignFault}
use Rattle.presign_check.specs.declared.fault.PresignFault.{PresignFault}
use Rattle.presign_check.specs.declared.fault.PresignFault.TheVariants as faults
use Rattle.signed_stream.specs.Status.{Ending, bad_job, bad_words, could_not_read_file, done, exit_code, job_too_large, no_memory, output_fault, read_fault, refused, run_fault}
use Rattle.presigned_program.specs.declared.status.PresignStatus.{PresignStatus}
use Rattle.presigned_program.specs.declared.status.PresignStatus.TheVariants.{Done, BadWords, JobTooLarge, BadJob, ReadFault, CouldNotReadFile, Refused, CheckFailed, OutputFault, NoMemory}

-- how a check ends
pub data PresignEnding : Type 0 where
  -- as any program may
  ends : Ending → PresignEnding
  -- with the first test that the request meets
  fails : PresignFault → PresignEnding

-- what contracts see of a status of the check's program
abbrev pub presign_ending : PresignStatus → PresignEnding
presign_ending Done = ends done
presign_ending (BadWords place) = ends (bad_words place)
presign_ending JobTooLarge = ends job_too_large
presign_ending (BadJob place) = ends (bad_job place)
presign_ending ReadFault = ends read_fault
presign_ending (CouldNotReadFile path) = ends (could_not_read_file (string_bytes path))
presign_ending (Refused fault) = ends (refused (run_fault fault))
presign_ending (CheckFailed fault) = fails fault
presign_ending OutputFault = ends output_fault
presign_ending NoMemory = ends no_memory

-- the copy is the same status
abbrev pub IsSamePresignStatus : PresignStatus → PresignStatus → Type 0
IsSamePresignStatus (CheckFailed fault) (CheckFailed copy) = IsSamePresignFault fault copy
IsSamePresignStatus status copy = presign_ending copy ≡ presign_ending status

-- how a check ends whose request meets a test
abbrev pub fault_ending : PresignFault → PresignEnding
fault_ending faults.NoMemory = ends no_memory
fault_ending fault = fails fault

-- the number that the check's process ends with
abbrev pub presign_code : PresignEnding → ℕ
presign_code (ends end) = exit_code end
presign_code (fails fault) = 8

-- the name of a fault
abbrev pub presign_fault_name : PresignFault → List ℕ
presign_fault_name faults.HeaderForm = codes "HeaderForm"
presign_fault_name (faults.Missing part) = codes "Missing"
presign_fault_name (faults.Repeated part) = codes "Repeated"
presign_fault_name (faults.BadPart part) = codes "BadPart"
presign_fault_name faults.UnknownKey = codes "UnknownKey"
presign_fault_name (faults.TooEarly date) = codes "TooEarly"
presign_fault_name (faults.Expired until) = codes "Expired"
presign_fault_name (faults.Mismatch carried recomputed) = codes "Mismatch"
presign_fault_name (faults.Signing error) = codes "Signing"
presign_fault_name faults.NoMemory = codes "NoMemory"
