use Rattle.std.proofs.Common.{inl, map, refl}
use Rattle.std.specs.Prelude.{string_bytes}
use Rattle.signed_stream.specs.Sources.{DiskGives}
use Rattle.operation_program.specs.Running.{operation_words}
use Rattle.operation_program.proofs.GoesLemmas.{bad_word, input_no_memory, words_no_memory}
use Rattle.operation_program.proofs.running.answer.Goals as goal

pub returns-in-Ok-clause-goes : goal.returns-in-Ok-clause-goes
returns-in-Ok-clause-goes g c = rw c.in-Ok.ensures c.answer_input.ensures.goes

pub returns-in-Ok-clause-ended : goal.returns-in-Ok-clause-ended
returns-in-Ok-clause-ended g c = rw c.in-Ok.ensures c.answer_input.ensures.ended

pub returns-in-Ok-clause-named : goal.returns-in-Ok-clause-named
returns-in-Ok-clause-named g c = rw c.in-Ok.ensures c.answer_input.ensures.named

pub returns-in-Ok-clause-untouched : goal.returns-in-Ok-clause-untouched
returns-in-Ok-clause-untouched g c = rw c.in-Ok.ensures tt

pub returns-in-Err-BadWord-clause-goes : goal.returns-in-Err-BadWord-clause-goes
returns-in-Err-BadWord-clause-goes g c =
    let is = rw c.in-Err-BadWord.field-0-is at c.in-Err-BadWord.ensures in
    rw c.in-Err-BadWord.field-0-is
    (bad_word (DiskGives g.D.Disk.answers g.D.Disk.faults (g.D.Disk.files c.args.disk.now) c.args.env.now c.args.disk.now c.args.disk.now) (λ places. tt) c.args.env.now
    (operation_words (map string_bytes c.args.words.now)) _ (g.S.ByteSource.left c.args.input.now) (g.K.ByteSink.held c.args.out.now) is)

pub returns-in-Err-BadWord-clause-ended : goal.returns-in-Err-BadWord-clause-ended
returns-in-Err-BadWord-clause-ended g c =
    let is = rw c.in-Err-BadWord.field-0-is at c.in-Err-BadWord.ensures in
    rw (is, c.in-Err-BadWord.field-0-is) (inl refl)

pub returns-in-Err-NoMemory-clause-goes : goal.returns-in-Err-NoMemory-clause-goes
returns-in-Err-NoMemory-clause-goes g c =
    input_no_memory (DiskGives g.D.Disk.answers g.D.Disk.faults (g.D.Disk.files c.args.disk.now) c.args.env.now c.args.disk.now c.args.disk.now) (λ places. tt) c.args.env.now
    (operation_words (map string_bytes c.args.words.now)) (g.S.ByteSource.left c.args.input.now) (g.K.ByteSink.held c.args.out.now)

pub returns-in-Err-NoMemory-clause-ended : goal.returns-in-Err-NoMemory-clause-ended
returns-in-Err-NoMemory-clause-ended g c = words_no_memory (operation_words (map string_bytes c.args.words.now))
