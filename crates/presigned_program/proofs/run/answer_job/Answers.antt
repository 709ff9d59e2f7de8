use Rattle.std.proofs.Common.{refl}
use Rattle.smithy_core.specs.Given.{Gives}
use Rattle.smithy_core.proofs.GivenLemmas.{given_none}
use Rattle.job_text.specs.RequestLines.{request_parts}
use Rattle.signed_stream.specs.RequestWords.{request_wanted}
use Rattle.signed_stream.specs.Selecting.{selection_ending}
use Rattle.signed_stream.specs.Settings.{selected_in}
use Rattle.signed_stream.specs.Sources.{DiskGives}
use Rattle.presigned_program.specs.PresignStatus.{presign_ending}
use Rattle.presigned_program.proofs.PresignLemmas.{selected_checked, selection_after, unselected_after, unselected_checked, unselected_counts}
use Rattle.presigned_program.proofs.run.answer_job.Goals as goal

pub returns-in-Ok-clause-checked : goal.returns-in-Ok-clause-checked
returns-in-Ok-clause-checked g c =
    let found = c.in-Ok.ensures.selects in
    selected_checked (DiskGives g.D.Disk.answers g.D.Disk.faults (g.D.Disk.files c.args.disk.now) c.args.env.now c.args.disk.now c.select.new.disk) (λ taken. Gives g.C.Clock c.args.clock.now taken c.answer_selected.new.clock) c.args.env.now
    (request_wanted c.args.words.now) (request_parts c.args.job) found.0 (selected_in c.in-Ok.settings) c.args.job.request (presign_ending c.answer_selected.result) (g.K.ByteSink.held c.args.out.now)
    (g.K.ByteSink.held c.answer_selected.new.out) found.1 found.2 (record { method = refl; target = refl; headers = refl; body = refl }) c.answer_selected.ensures.end c.answer_selected.ensures.checked

pub returns-in-Ok-clause-end : goal.returns-in-Ok-clause-end
returns-in-Ok-clause-end g c = selection_after (presign_ending c.answer_selected.result) c.answer_selected.ensures.end

pub returns-clause-checked : goal.returns-clause-checked
returns-clause-checked g c =
    let found = c.in-Err.ensures.selects in
    rw c.from.ensures
    (unselected_checked (DiskGives g.D.Disk.answers g.D.Disk.faults (g.D.Disk.files c.args.disk.now) c.args.env.now c.args.disk.now c.select.new.disk) (λ taken. Gives g.C.Clock c.args.clock.now taken c.args.clock.now) c.args.env.now
    (request_wanted c.args.words.now) (request_parts c.args.job) found.0 (selection_ending c.in-Err.fault) (g.K.ByteSink.held c.args.out.now) found.1 found.2 (given_none g.C.Clock c.args.clock.now) c.in-Err.ensures.named)

pub returns-clause-end : goal.returns-clause-end
returns-clause-end g c = rw c.from.ensures (unselected_after c.in-Err.fault)

pub returns-clause-writes : goal.returns-clause-writes
returns-clause-writes g c = rw c.from.ensures (unselected_counts c.in-Err.fault (g.K.ByteSink.faults c.args.out.now))
