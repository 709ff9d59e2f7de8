use Rattle.std.proofs.Common.{inl, map, refl}
use Rattle.std.specs.Prelude.{string_bytes}
use Rattle.smithy_core.specs.Given.{Gives}
use Rattle.smithy_core.proofs.GivenLemmas.{given_none}
use Rattle.signed_stream.specs.RequestWords.{request_words}
use Rattle.signed_stream.specs.Sources.{DiskGives}
use Rattle.presigned_program.proofs.PresignLemmas.{no_memory_words}
use Rattle.presigned_program.proofs.run.answer.Goals as goal

pub returns-in-Ok-clause-ran : goal.returns-in-Ok-clause-ran
returns-in-Ok-clause-ran g c = rw c.in-Ok.ensures c.answer_words.ensures.ran

pub returns-in-Ok-clause-untouched : goal.returns-in-Ok-clause-untouched
returns-in-Ok-clause-untouched g c = rw c.in-Ok.ensures tt

pub returns-in-Err-BadWord-clause-ran : goal.returns-in-Err-BadWord-clause-ran
returns-in-Err-BadWord-clause-ran g c =
    let is = rw c.in-Err-BadWord.field-0-is at c.in-Err-BadWord.ensures in
    rw (is, c.in-Err-BadWord.field-0-is) (inl refl, given_none g.C.Clock c.args.clock.now)

pub returns-in-Err-NoMemory-clause-ran : goal.returns-in-Err-NoMemory-clause-ran
returns-in-Err-NoMemory-clause-ran g c =
    no_memory_words (DiskGives g.D.Disk.answers g.D.Disk.faults (g.D.Disk.files c.args.disk.now) c.args.env.now c.args.disk.now c.args.disk.now) (λ places. tt) (λ taken. Gives g.C.Clock c.args.clock.now taken c.args.clock.now) (given_none g.C.Clock c.args.clock.now) c.args.env.now
    (request_words (map string_bytes c.args.words.now)) (g.S.ByteSource.left c.args.input.now) (g.K.ByteSink.held c.args.out.now)
