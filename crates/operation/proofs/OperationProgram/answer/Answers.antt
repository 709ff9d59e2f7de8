use Rattle.std.proofs.Common.{Ok}
use Rattle.signed_stream.specs.Status.{output_fault}
use Rattle.operation_program.specs.Status.{operation_ending}
use Rattle.operation_program.proofs.GoesLemmas.{said_counts, said_goes}
use Rattle.operation.proofs.OperationProgram.answer.Goals as goal

pub returns-in-Some-clause-printed : goal.returns-in-Some-clause-printed
returns-in-Some-clause-printed g c =
    rw (← c.text_asked.ensures, c.in-Some.is, c.in-Some.text-is)
    (said_goes (Ok c.in-Some.text.now) (operation_ending c.write_text.result) (operation_ending c.say_operation.result) (g.K.ByteSink.held c.args.out.now) (g.K.ByteSink.held c.write_text.new.out)
    (rw c.as_bytes.ensures.value at c.write_text.ensures.goes) c.say_operation.ensures.answer)

pub returns-in-Some-clause-counted : goal.returns-in-Some-clause-counted
returns-in-Some-clause-counted g c =
    said_counts output_fault (λ e. cc) (operation_ending c.write_text.result) (operation_ending c.say_operation.result) (g.K.ByteSink.faults c.args.out.now) (g.K.ByteSink.faults c.write_text.new.out)
    c.write_text.ensures.writes c.say_operation.ensures.answer
