-- What the statuses of programs have in common, as contracts see it.
use Rattle.signed_stream.specs.Status.{Ending, bad_job, bad_words, could_not_read_file, job_too_large, no_memory, output_fault, read_fault, refused, run_fault}
use Rattle.signed_stream.specs.declared.shared_status.SharedStatus.{SharedStatus}
use Rattle.signed_stream.specs.declared.shared_status.SharedStatus.TheVariants.{BadWords, JobTooLarge, BadJob, ReadFault, CouldNotReadFile, Refused, OutputFault, NoMemory}

-- how a run ends of which a status says this
abbrev pub shared_ending : SharedStatus → Ending
shared_ending (BadWords place) = bad_words place
shared_ending JobTooLarge = job_too_large
shared_ending (BadJob place) = bad_job place
shared_ending ReadFault = read_fault
shared_ending (CouldNotReadFile path) = could_not_read_file path.now
shared_ending (Refused fault) = refused (run_fault fault.now)
shared_ending OutputFault = output_fault
shared_ending NoMemory = no_memory
