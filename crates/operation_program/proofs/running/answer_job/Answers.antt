use Rattle.job_text.specs.OperationJob.{operation_input}
use Rattle.job_text.specs.ProfileTexts.{texts_of}
use Rattle.signed_stream.specs.Selecting.{selection_ending}
use Rattle.signed_stream.specs.Settings.{selected_in}
use Rattle.signed_stream.specs.Sources.{DiskGives}
use Rattle.operation_program.specs.Status.{operation_ending}
use Rattle.operation_program.specs.Words.{operation_wanted}
use Rattle.operation_program.proofs.GoesLemmas.{goes_selected, selected_job, unselected, unselected_counts, unselected_job}
use Rattle.operation_program.proofs.running.answer_job.Goals as goal

pub returns-in-Ok-clause-goes : goal.returns-in-Ok-clause-goes
returns-in-Ok-clause-goes g c =
    let found = c.in-Ok.ensures.selects in
    goes_selected (DiskGives g.D.Disk.answers g.D.Disk.faults (g.D.Disk.files c.args.disk.now) c.args.env.now c.args.disk.now c.select.new.disk) c.args.env.now (operation_wanted c.args.words.now) (operation_input c.args.job)
    found.0 found.1 (selected_in c.in-Ok.settings) found.2 (operation_ending c.answer_selected.result) (g.K.ByteSink.held c.args.out.now) (g.K.ByteSink.held c.answer_selected.new.out)
    (rw c.as_slice-replies.ensures.value at (c.answer_selected.ensures.goes (texts_of c.args.job.request.texts)))

pub returns-in-Ok-clause-end : goal.returns-in-Ok-clause-end
returns-in-Ok-clause-end g c = selected_job (operation_ending c.answer_selected.result) c.answer_selected.ensures.end

pub returns-clause-goes : goal.returns-clause-goes
returns-clause-goes g c =
    let found = c.in-Err.ensures.selects in
    rw c.from.ensures
    (unselected (DiskGives g.D.Disk.answers g.D.Disk.faults (g.D.Disk.files c.args.disk.now) c.args.env.now c.args.disk.now c.select.new.disk) c.args.env.now (operation_wanted c.args.words.now) (operation_input c.args.job)
    found.0 found.1 (selection_ending c.in-Err.fault) found.2 (g.K.ByteSink.held c.args.out.now))

pub returns-clause-end : goal.returns-clause-end
returns-clause-end g c = rw c.from.ensures (unselected_job c.in-Err.fault)

pub returns-clause-writes : goal.returns-clause-writes
returns-clause-writes g c = rw c.from.ensures (unselected_counts c.in-Err.fault (g.K.ByteSink.faults c.args.out.now))
