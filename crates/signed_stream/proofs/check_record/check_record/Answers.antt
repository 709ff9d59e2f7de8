use Rattle.signed_stream.specs.Options.{check_wanted}
use Rattle.job_text.specs.Record.{record_parts}
use Rattle.signed_stream.specs.Settings.{selected_in}
use Rattle.signed_stream.specs.Sources.{DiskGives}
use Rattle.signed_stream.specs.Selecting.{selection_ending}
use Rattle.signed_stream.specs.Status.{ending_of}
use Rattle.signed_stream.proofs.FitLemmas.{record_sealed, record_unselected}
use Rattle.signed_stream.proofs.SourceLemmas.{selects_after_texts, selects_no_more}
use Rattle.signed_stream.proofs.check_record.check_record.Goals as goal

pub returns-in-Ok-clause-planned : goal.returns-in-Ok-clause-planned
unfolding record_parts
returns-in-Ok-clause-planned g c =
    let gave = DiskGives g.D.Disk.answers g.D.Disk.faults (g.D.Disk.files c.args.disk.now) c.args.env.now c.args.disk.now c.select.new.disk in
    let found = c.in-Ok.ensures.selects in
    let goes = rw c.as_slice.ensures.value at c.show_checked.ensures.planned in
    record_sealed gave c.args.env.now (check_wanted c.args.words) (record_parts c.args.draft) found.0 (selected_in c.in-Ok.settings) goes.0 (ending_of c.show_checked.result)
    (g.K.ByteSink.held c.args.out.now) (g.K.ByteSink.held c.show_checked.new.out) found.1 found.2 goes.1 goes.2

pub returns-clause-planned : goal.returns-clause-planned
unfolding record_parts
returns-clause-planned g c =
    let gave = DiskGives g.D.Disk.answers g.D.Disk.faults (g.D.Disk.files c.args.disk.now) c.args.env.now c.args.disk.now c.select.new.disk in
    let found = c.in-Err.ensures.selects in
    rw c.from.ensures
    (record_unselected gave c.args.env.now (check_wanted c.args.words) (record_parts c.args.draft) found.0 (selection_ending c.in-Err.fault) (g.K.ByteSink.held c.args.out.now) found.1 found.2)

pub returns-clause-end : goal.returns-clause-end
returns-clause-end g c = rw c.from.ensures (selects_after_texts c.in-Err.fault)

pub returns-clause-effects : goal.returns-clause-effects
returns-clause-effects g c = selects_no_more g.D.Disk _ c.in-Err.fault (ending_of c.from.result) _ _ _ c.from.ensures c.in-Err.ensures.named c.select.ensures.same c.select.ensures.count
