use Rattle.std.proofs.Common.{Ok}
use Rattle.presigned_program.specs.PresignStatus.{presign_ending}
use Rattle.presigned_program.proofs.PresignLemmas.{said_presigned}
use Rattle.presigned.proofs.PresignedProgram.answer.Goals as goal

pub returns-in-Some-clause-printed : goal.returns-in-Some-clause-printed
returns-in-Some-clause-printed g c =
    rw (← c.text_asked.ensures, c.in-Some.is, c.in-Some.text-is)
    (said_presigned (Ok c.in-Some.text.now) (presign_ending c.write_text.result) (presign_ending c.say_presigned.result) (g.K.ByteSink.held c.args.out.now) (g.K.ByteSink.held c.write_text.new.out)
    c.write_text.ensures.printed c.say_presigned.ensures.answer)
