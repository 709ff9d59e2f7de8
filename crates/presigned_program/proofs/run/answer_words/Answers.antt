use Rattle.std.proofs.Common.{◌≤◌, length, arith}
use Rattle.smithy_core.specs.Given.{Gives}
use Rattle.smithy_core.proofs.GivenLemmas.{given_none}
use Rattle.signed_stream.specs.Plan.{most_input}
use Rattle.signed_stream.specs.RequestWords.{request_wanted}
use Rattle.signed_stream.specs.Sources.{DiskGives}
use Rattle.presigned_program.specs.PresignStatus.{presign_ending}
use Rattle.presigned_program.proofs.PresignLemmas.{kept_presigned, no_memory_ran, read_counts, read_fault_ran, read_ran, too_large_ran}
use Rattle.presigned_program.proofs.run.answer_words.Goals as goal

pub returns-in-Ok-clause-ran : goal.returns-in-Ok-clause-ran
returns-in-Ok-clause-ran g c =
    let short : length c.in-Ok.bytes.items ≤ most_input = omega (arith, c.in-Ok.bytes.ok.0, c.in-Ok.ensures.short) in
    read_ran (DiskGives g.D.Disk.answers g.D.Disk.faults (g.D.Disk.files c.args.disk.now) c.args.env.now c.args.disk.now c.answer_bytes.new.disk) (λ taken. Gives g.C.Clock c.args.clock.now taken c.answer_bytes.new.clock) c.args.env.now
    (request_wanted c.args.words.now) (g.S.ByteSource.left c.args.input.now) c.in-Ok.bytes.items (presign_ending c.answer_bytes.result) (g.K.ByteSink.held c.args.out.now) (g.K.ByteSink.held c.answer_bytes.new.out)
    c.in-Ok.ensures.bytes short c.answer_bytes.ensures.end c.answer_bytes.ensures.checked

pub returns-in-Ok-clause-kept : goal.returns-in-Ok-clause-kept
returns-in-Ok-clause-kept g c = kept_presigned _ (presign_ending c.answer_bytes.result) (g.K.ByteSink.held c.args.out.now) (g.K.ByteSink.held c.answer_bytes.new.out) c.answer_bytes.ensures.checked.goes

pub returns-in-Ok-clause-reads : goal.returns-in-Ok-clause-reads
returns-in-Ok-clause-reads g c =
    read_counts (presign_ending c.answer_bytes.result) (g.S.ByteSource.faults c.args.input.now) (g.S.ByteSource.faults c.read_all.new.source) c.answer_bytes.ensures.end (c.in-Ok.ensures.steady (λ is. cc))

pub returns-in-Err-TooLarge-clause-ran : goal.returns-in-Err-TooLarge-clause-ran
returns-in-Err-TooLarge-clause-ran g c =
    too_large_ran (DiskGives g.D.Disk.answers g.D.Disk.faults (g.D.Disk.files c.args.disk.now) c.args.env.now c.args.disk.now c.args.disk.now) (λ places. tt) (λ taken. Gives g.C.Clock c.args.clock.now taken c.args.clock.now) (given_none g.C.Clock c.args.clock.now) c.args.env.now
    (request_wanted c.args.words.now) (g.S.ByteSource.left c.args.input.now) (g.K.ByteSink.held c.args.out.now) (c.in-Err-TooLarge.ensures.too_large (cc))

pub returns-in-Err-Failed-clause-ran : goal.returns-in-Err-Failed-clause-ran
returns-in-Err-Failed-clause-ran g c =
    read_fault_ran (DiskGives g.D.Disk.answers g.D.Disk.faults (g.D.Disk.files c.args.disk.now) c.args.env.now c.args.disk.now c.args.disk.now) (λ places. tt) (λ taken. Gives g.C.Clock c.args.clock.now taken c.args.clock.now) (given_none g.C.Clock c.args.clock.now) c.args.env.now
    (request_wanted c.args.words.now) (g.S.ByteSource.left c.args.input.now) (g.K.ByteSink.held c.args.out.now)

pub returns-in-Err-NoMemory-clause-ran : goal.returns-in-Err-NoMemory-clause-ran
returns-in-Err-NoMemory-clause-ran g c =
    no_memory_ran (DiskGives g.D.Disk.answers g.D.Disk.faults (g.D.Disk.files c.args.disk.now) c.args.env.now c.args.disk.now c.args.disk.now) (λ places. tt) (λ taken. Gives g.C.Clock c.args.clock.now taken c.args.clock.now) (given_none g.C.Clock c.args.clock.now) c.args.env.now
    (request_wanted c.args.words.now) (g.S.ByteSource.left c.args.input.now) (g.K.ByteSink.held c.args.out.now)
