use Rattle.smithy_core.specs.Given.{Gives}
use Rattle.smithy_core.proofs.GivenLemmas.{given_none}
use Rattle.job_text.specs.RequestLines.{request_job}
use Rattle.signed_stream.specs.RequestWords.{request_wanted}
use Rattle.signed_stream.specs.Sources.{DiskGives}
use Rattle.presigned_program.specs.PresignStatus.{presign_ending}
use Rattle.presigned_program.proofs.PresignLemmas.{bad_line_checked, no_memory_checked, request_after, request_disk}
use Rattle.presigned_program.proofs.run.answer_bytes.Goals as goal

pub returns-in-Ok-clause-checked : goal.returns-in-Ok-clause-checked
returns-in-Ok-clause-checked g c = rw c.in-Ok.ensures c.answer_job.ensures.checked

pub returns-in-Ok-clause-end : goal.returns-in-Ok-clause-end
returns-in-Ok-clause-end g c = request_after (presign_ending c.answer_job.result) c.answer_job.ensures.end

pub returns-in-Ok-clause-disk : goal.returns-in-Ok-clause-disk
returns-in-Ok-clause-disk g c = (request_disk (presign_ending c.answer_job.result) c.args.disk.now c.answer_job.new.disk c.answer_job.ensures.end, c.answer_job.ensures.disk)

pub returns-in-Err-BadLine-clause-checked : goal.returns-in-Err-BadLine-clause-checked
returns-in-Err-BadLine-clause-checked g c =
    let read = rw c.in-Err-BadLine.field-0-is at c.in-Err-BadLine.ensures in
    rw (read, c.in-Err-BadLine.field-0-is)
    (bad_line_checked (DiskGives g.D.Disk.answers g.D.Disk.faults (g.D.Disk.files c.args.disk.now) c.args.env.now c.args.disk.now c.args.disk.now) (λ places. tt) (λ taken. Gives g.C.Clock c.args.clock.now taken c.args.clock.now) (given_none g.C.Clock c.args.clock.now) c.args.env.now
    (request_wanted c.args.words.now) _ (g.K.ByteSink.held c.args.out.now))

pub returns-in-Err-NoMemory-clause-checked : goal.returns-in-Err-NoMemory-clause-checked
returns-in-Err-NoMemory-clause-checked g c =
    no_memory_checked (DiskGives g.D.Disk.answers g.D.Disk.faults (g.D.Disk.files c.args.disk.now) c.args.env.now c.args.disk.now c.args.disk.now) (λ places. tt) (λ taken. Gives g.C.Clock c.args.clock.now taken c.args.clock.now) (given_none g.C.Clock c.args.clock.now) c.args.env.now
    (request_wanted c.args.words.now) (request_job c.args.bytes.items) (g.K.ByteSink.held c.args.out.now)
