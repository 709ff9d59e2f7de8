use Rattle.std.proofs.Common.{map}
use Rattle.job_text.specs.OperationJob.{reply_parts}
use Rattle.signed_stream.specs.Settings.{selected_in}
use Rattle.operation_program.specs.Carriers.{scripted_with}
use Rattle.operation_program.specs.Status.{operation_ending}
use Rattle.operation_program.specs.Words.{operation_wanted}
use Rattle.operation_program.proofs.GoesLemmas.{stop_counts, stops_selected, text_stops, text_written}
use Rattle.operation_program.proofs.running.answer_selected.Goals as goal

pub returns-in-Ok-clause-goes : goal.returns-in-Ok-clause-goes
returns-in-Ok-clause-goes g c = λ texts.
    text_written (scripted_with c.args.env.now (operation_wanted c.args.words.now) c.args.request.now texts (map reply_parts c.args.replies.now) (selected_in c.args.settings)) c.in-Ok.text
    (operation_ending c.write_text.result) (g.K.ByteSink.held c.args.out.now) (g.K.ByteSink.held c.write_text.new.out) (c.in-Ok.ensures.gives texts)
    (rw c.as_slice.ensures.value at c.write_text.ensures.goes)

pub returns-in-Err-clause-goes : goal.returns-in-Err-clause-goes
returns-in-Err-clause-goes g c = λ texts.
    text_stops (scripted_with c.args.env.now (operation_wanted c.args.words.now) c.args.request.now texts (map reply_parts c.args.replies.now) (selected_in c.args.settings)) c.in-Err.status
    (g.K.ByteSink.held c.args.out.now) (c.in-Err.ensures.gives texts)

pub returns-in-Err-clause-end : goal.returns-in-Err-clause-end
returns-in-Err-clause-end g c = stops_selected (operation_ending c.in-Err.status) c.in-Err.ensures.end

pub returns-in-Err-clause-writes : goal.returns-in-Err-clause-writes
returns-in-Err-clause-writes g c = stop_counts (operation_ending c.in-Err.status) (g.K.ByteSink.faults c.args.out.now) c.in-Err.ensures.end
