use Rattle.signed_stream.specs.ProfileOptions.{profile_wanted}
use Rattle.job_text.specs.ProfileTexts.{texts_of}
use Rattle.signed_stream.specs.Settings.{selected_in}
use Rattle.signed_stream.specs.Sources.{DiskGives}
use Rattle.signed_stream.specs.Selecting.{selection_ending}
use Rattle.signed_stream.specs.Status.{ending_of}
use Rattle.signed_stream.proofs.FitLemmas.{ended_after_texts, ended_writes, texts_shown, texts_unselected}
use Rattle.signed_stream.proofs.SourceLemmas.{selects_after_texts, selects_no_more}
use Rattle.signed_stream.proofs.show_settings.show_settings.Goals as goal

pub returns-in-Ok-clause-planned : goal.returns-in-Ok-clause-planned
returns-in-Ok-clause-planned g c =
    let gave = DiskGives g.D.Disk.answers g.D.Disk.faults (g.D.Disk.files c.args.disk.now) c.args.env.now c.args.disk.now c.select.new.disk in
    let found = c.in-Ok.ensures.selects in
    rw c.status_of.ensures
    (texts_shown gave c.args.env.now (profile_wanted c.args.options) (texts_of c.args.texts) found.0 (selected_in c.in-Ok.settings) c.write_settings.result
    (g.K.ByteSink.held c.args.out.now) (g.K.ByteSink.held c.write_settings.new.out) found.1 found.2 c.write_settings.ensures.sends)

pub returns-clause-planned : goal.returns-clause-planned
returns-clause-planned g c =
    let gave = DiskGives g.D.Disk.answers g.D.Disk.faults (g.D.Disk.files c.args.disk.now) c.args.env.now c.args.disk.now c.select.new.disk in
    let found = c.in-Err.ensures.selects in
    rw c.from.ensures
    (texts_unselected gave c.args.env.now (profile_wanted c.args.options) (texts_of c.args.texts) found.0 (selection_ending c.in-Err.fault) (g.K.ByteSink.held c.args.out.now) found.1 found.2)

pub returns-clause-end : goal.returns-clause-end
returns-clause-end g c = rw c.from.ensures (selects_after_texts c.in-Err.fault)

pub returns-in-Ok-clause-end : goal.returns-in-Ok-clause-end
returns-in-Ok-clause-end g c = rw c.status_of.ensures (ended_after_texts c.write_settings.result)

pub returns-in-Ok-clause-effects : goal.returns-in-Ok-clause-effects
returns-in-Ok-clause-effects g c = ended_writes g.D.Disk _ c.write_settings.result _ _ _ _ _ c.status_of.ensures c.write_settings.ensures.counts c.select.ensures.same c.select.ensures.count

pub returns-clause-effects : goal.returns-clause-effects
returns-clause-effects g c = selects_no_more g.D.Disk _ c.in-Err.fault (ending_of c.from.result) _ _ _ c.from.ensures c.in-Err.ensures.named c.select.ensures.same c.select.ensures.count
