use Rattle.job_text.specs.OperationJob.{operation_job}
use Rattle.signed_stream.specs.Sources.{DiskGives}
use Rattle.operation_program.specs.Status.{operation_ending}
use Rattle.operation_program.specs.Words.{operation_wanted}
use Rattle.operation_program.proofs.GoesLemmas.{bad_line, job_bytes, job_files, unread_no_memory}
use Rattle.operation_program.proofs.running.answer_bytes.Goals as goal

pub returns-in-Ok-clause-goes : goal.returns-in-Ok-clause-goes
returns-in-Ok-clause-goes g c = rw c.in-Ok.ensures c.answer_job.ensures.goes

pub returns-in-Ok-clause-end : goal.returns-in-Ok-clause-end
returns-in-Ok-clause-end g c = job_bytes (operation_ending c.answer_job.result) c.answer_job.ensures.end

pub returns-in-Ok-clause-disk : goal.returns-in-Ok-clause-disk
returns-in-Ok-clause-disk g c = job_files (operation_ending c.answer_job.result) c.args.disk.now c.answer_job.new.disk c.answer_job.ensures.end

pub returns-in-Err-BadLine-clause-goes : goal.returns-in-Err-BadLine-clause-goes
returns-in-Err-BadLine-clause-goes g c =
    let read = rw c.in-Err-BadLine.field-0-is at c.in-Err-BadLine.ensures in
    rw c.in-Err-BadLine.field-0-is
    (bad_line (DiskGives g.D.Disk.answers g.D.Disk.faults (g.D.Disk.files c.args.disk.now) c.args.env.now c.args.disk.now c.args.disk.now) (λ places. tt) c.args.env.now
    (operation_wanted c.args.words.now) (operation_job c.args.bytes.items) _ (g.K.ByteSink.held c.args.out.now) read)

pub returns-in-Err-NoMemory-clause-goes : goal.returns-in-Err-NoMemory-clause-goes
returns-in-Err-NoMemory-clause-goes g c =
    unread_no_memory (DiskGives g.D.Disk.answers g.D.Disk.faults (g.D.Disk.files c.args.disk.now) c.args.env.now c.args.disk.now c.args.disk.now) (λ places. tt) c.args.env.now
    (operation_wanted c.args.words.now) (operation_job c.args.bytes.items) (g.K.ByteSink.held c.args.out.now)
