use Rattle.std.proofs.Common.{◌≤◌, length, arith}
use Rattle.std.specs.Prelude.{Ok}
use Rattle.signed_stream.specs.Plan.{most_input}
use Rattle.signed_stream.specs.Sources.{DiskGives}
use Rattle.operation_program.specs.Status.{operation_ending}
use Rattle.operation_program.specs.Words.{operation_wanted}
use Rattle.operation_program.proofs.GoesLemmas.{bytes_counts, bytes_words, input_failed, input_no_memory, input_read, keeps_out, too_large}
use Rattle.operation_program.proofs.running.answer_input.Goals as goal

pub returns-in-Ok-clause-goes : goal.returns-in-Ok-clause-goes
returns-in-Ok-clause-goes g c =
    let short : length c.in-Ok.bytes.items ≤ most_input = omega (arith, c.in-Ok.bytes.ok.0, c.in-Ok.ensures.short) in
    input_read (DiskGives g.D.Disk.answers g.D.Disk.faults (g.D.Disk.files c.args.disk.now) c.args.env.now c.args.disk.now c.answer_bytes.new.disk) c.args.env.now (operation_wanted c.args.words.now)
    (g.S.ByteSource.left c.args.input.now) c.in-Ok.bytes.items (operation_ending c.answer_bytes.result) (g.K.ByteSink.held c.args.out.now) (g.K.ByteSink.held c.answer_bytes.new.out)
    c.in-Ok.ensures.bytes short c.answer_bytes.ensures.goes

pub returns-in-Ok-clause-ended : goal.returns-in-Ok-clause-ended
returns-in-Ok-clause-ended g c = bytes_words (operation_wanted c.args.words.now) (operation_ending c.answer_bytes.result) c.answer_bytes.ensures.end

pub returns-in-Ok-clause-kept : goal.returns-in-Ok-clause-kept
returns-in-Ok-clause-kept g c = keeps_out _ (operation_ending c.answer_bytes.result) (g.K.ByteSink.held c.args.out.now) (g.K.ByteSink.held c.answer_bytes.new.out) c.answer_bytes.ensures.goes.goes

pub returns-in-Ok-clause-reads : goal.returns-in-Ok-clause-reads
returns-in-Ok-clause-reads g c =
    bytes_counts (operation_ending c.answer_bytes.result) (g.S.ByteSource.faults c.args.input.now) (g.S.ByteSource.faults c.read_all.new.source) c.answer_bytes.ensures.end (c.in-Ok.ensures.steady (λ is. cc)) c.in-Ok.ensures.count

pub returns-in-Err-TooLarge-clause-goes : goal.returns-in-Err-TooLarge-clause-goes
returns-in-Err-TooLarge-clause-goes g c =
    too_large (DiskGives g.D.Disk.answers g.D.Disk.faults (g.D.Disk.files c.args.disk.now) c.args.env.now c.args.disk.now c.args.disk.now) (λ places. tt) c.args.env.now (operation_wanted c.args.words.now)
    (g.S.ByteSource.left c.args.input.now) (g.K.ByteSink.held c.args.out.now) (c.in-Err-TooLarge.ensures.too_large (cc))

pub returns-in-Err-Failed-clause-goes : goal.returns-in-Err-Failed-clause-goes
returns-in-Err-Failed-clause-goes g c =
    input_failed (DiskGives g.D.Disk.answers g.D.Disk.faults (g.D.Disk.files c.args.disk.now) c.args.env.now c.args.disk.now c.args.disk.now) (λ places. tt) c.args.env.now (operation_wanted c.args.words.now)
    (g.S.ByteSource.left c.args.input.now) (g.K.ByteSink.held c.args.out.now)

pub returns-in-Err-NoMemory-clause-goes : goal.returns-in-Err-NoMemory-clause-goes
returns-in-Err-NoMemory-clause-goes g c =
    input_no_memory (DiskGives g.D.Disk.answers g.D.Disk.faults (g.D.Disk.files c.args.disk.now) c.args.env.now c.args.disk.now c.args.disk.now) (λ places. tt) c.args.env.now (Ok (operation_wanted c.args.words.now))
    (g.S.ByteSource.left c.args.input.now) (g.K.ByteSink.held c.args.out.now)
