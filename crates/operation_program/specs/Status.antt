-- How a run of the program ends, as contracts see it.
use Rattle.std.specs.Prelude.{ℕ, string_bytes}
use Rattle.signed_stream.specs.Status.{Ending, bad_job, bad_words, could_not_read_file, done, exit_code, job_too_large, no_memory, output_fault, read_fault, refused, run_fault}
use Rattle.operation_program.specs.declared.status.OperationStatus.{OperationStatus}
use Rattle.operation_program.specs.declared.status.OperationStatus.TheVariants as operations

-- how a run of the program ends: as one of the first program may, or by the transport's fault
pub data OperationEnding : Type 0 where
  -- as a run of the first program may
  usual : Ending → OperationEnding
  -- the replies are used up, and each is worth one attempt more
  transport_fault : OperationEnding

-- what contracts see of an operation's status
abbrev pub operation_ending : OperationStatus → OperationEnding
operation_ending operations.Done = usual done
operation_ending (operations.BadWords place) = usual (bad_words place)
operation_ending operations.JobTooLarge = usual job_too_large
operation_ending (operations.BadJob place) = usual (bad_job place)
operation_ending operations.ReadFault = usual read_fault
operation_ending (operations.CouldNotReadFile path) = usual (could_not_read_file (string_bytes path))
operation_ending (operations.Refused fault) = usual (refused (run_fault fault))
operation_ending operations.OutputFault = usual output_fault
operation_ending operations.NoMemory = usual no_memory
operation_ending operations.TransportFault = transport_fault

-- the number that the process of an operation ends with
abbrev pub operation_code : OperationEnding → ℕ
operation_code (usual end) = exit_code end
operation_code transport_fault = 12
