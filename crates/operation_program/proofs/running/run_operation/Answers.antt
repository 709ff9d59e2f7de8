use Rattle.std.proofs.Common.{map}
use Rattle.std.specs.Prelude.{string_bytes}
use Rattle.signed_stream.specs.Sources.{DiskGives}
use Rattle.operation_program.specs.Running.{operation_words}
use Rattle.operation_program.specs.Status.{operation_ending}
use Rattle.operation_program.proofs.GoesLemmas.{said_done, said_files, said_ran}
use Rattle.operation_program.proofs.running.run_operation.Goals as goal

pub returns-clause-ran : goal.returns-clause-ran
returns-clause-ran g c =
    let answer = c.answer-status.ensures in
    let said = c.say_operation.ensures.answer in
    said_ran (DiskGives g.D.Disk.answers g.D.Disk.faults (g.D.Disk.files c.args.disk.now) c.args.env.now c.args.disk.now c.answer-status.new.disk) c.args.env.now
    (operation_words (map string_bytes c.args.words.now)) (g.S.ByteSource.left c.args.input.now) (operation_ending c.answer-status.result) (operation_ending c.say_operation.result)
    (g.S.ByteSource.faults c.args.input.now) (g.S.ByteSource.faults c.answer-status.new.input) _ _ said answer.goes answer.ended answer.kept answer.named c.say_operation.ensures.said answer.reads answer.writes

pub returns-clause-disk : goal.returns-clause-disk
returns-clause-disk g c = (said_files (operation_ending c.answer-status.result) (operation_ending c.say_operation.result) _ _ c.answer-status.ensures.disk c.say_operation.ensures.answer, c.answer-status.ensures.same)

pub returns-clause-outside : goal.returns-clause-outside
returns-clause-outside g c =
    let answer = c.answer-status.ensures in
    (said_done _ _ _ answer.at_end c.say_operation.ensures.answer, answer.rest, answer.count, c.say_operation.ensures.count)
