use Rattle.std.proofs.Common.{map}
use Rattle.std.specs.Prelude.{string_bytes}
use Rattle.smithy_core.specs.Given.{Gives}
use Rattle.signed_stream.specs.RequestWords.{request_words}
use Rattle.signed_stream.specs.Sources.{DiskGives}
use Rattle.presigned_program.specs.PresignStatus.{presign_ending}
use Rattle.presigned_program.proofs.PresignLemmas.{said_disk_at, said_done, said_input, said_kept, said_output, said_words}
use Rattle.presigned_program.proofs.run.run_presigned.Goals as goal

pub returns-clause-headline : goal.returns-clause-headline
returns-clause-headline g c =
    let answer = c.answer-status.ensures in
    let said = c.say_presigned.ensures.answer in
    record {
      ran = said_words (DiskGives g.D.Disk.answers g.D.Disk.faults (g.D.Disk.files c.args.disk.now) c.args.env.now c.args.disk.now c.answer-status.new.disk) (λ taken. Gives g.C.Clock c.args.clock.now taken c.answer-status.new.clock) c.args.env.now
          (request_words (map string_bytes c.args.words.now)) (g.S.ByteSource.left c.args.input.now) (presign_ending c.answer-status.result) (presign_ending c.say_presigned.result)
          (g.K.ByteSink.held c.args.out.now) (g.K.ByteSink.held c.answer-status.new.out) answer.ran said;
      kept = said_kept _ _ _ _ answer.kept said;
      said = c.say_presigned.ensures.said;
      reads = said_input _ _ _ _ answer.reads answer.outside.2 said;
      writes = said_output _ _ _ _ answer.writes answer.outside.4 said;
    }

pub returns-clause-disk : goal.returns-clause-disk
returns-clause-disk g c = (said_disk_at (presign_ending c.answer-status.result) (presign_ending c.say_presigned.result) _ _ c.answer-status.ensures.disk.0 c.say_presigned.ensures.answer, c.answer-status.ensures.disk.1)

pub returns-clause-outside : goal.returns-clause-outside
returns-clause-outside g c =
    let answer = c.answer-status.ensures in
    (said_done _ _ _ answer.outside.0 c.say_presigned.ensures.answer, answer.outside.1, answer.outside.2, answer.outside.3, answer.outside.4, c.say_presigned.ensures.count)
