use Rattle.std.proofs.Common.{refl}
use Rattle.std.specs.Prelude.{string_bytes}
use Rattle.smithy_core.specs.Given.{Gives}
use Rattle.smithy_core.proofs.GivenLemmas.{given_none}
use Rattle.job_text.specs.Draft.{job_parts}
use Rattle.signed_stream.specs.Options.{wanted_of}
use Rattle.signed_stream.specs.Plan.{unloaded}
use Rattle.signed_stream.specs.Running.{OfClock}
use Rattle.signed_stream.specs.Selecting.{selection_ending}
use Rattle.signed_stream.specs.Settings.{selected_in}
use Rattle.signed_stream.specs.Sources.{DiskGives}
use Rattle.signed_stream.specs.Status.{ending_of, no_memory}
use Rattle.signed_stream.specs.Streaming.{job_with}
use Rattle.signed_stream.proofs.FitLemmas.{ended_after_texts, ended_writes, job_goes, job_unselected, words_go}
use Rattle.signed_stream.proofs.RunLemmas.{unasked_at}
use Rattle.signed_stream.proofs.SourceLemmas.{selects_after_texts, selects_no_more}
use Rattle.signed_stream.proofs.stream.stream_job.Goals as goal

pub returns-in-Ok-options_of-clause-planned : goal.returns-in-Ok-options_of-clause-planned
returns-in-Ok-options_of-clause-planned g c =
    let gave = DiskGives g.D.Disk.answers g.D.Disk.faults (g.D.Disk.files c.args.disk.now) c.args.env.now c.args.disk.now c.select.new.disk in
    let found = c.in-Ok.ensures.selects in
    let request = job_with c.args.job.request c.args.job.events.items in
    rw c.status_of.ensures
    (job_goes gave (λ taken. Gives g.C.Clock c.args.clock.now taken c.stream_at.new.clock) c.args.env.now (wanted_of c.args.words) (job_parts c.args.job) request found.0 (selected_in c.in-Ok.settings) _ _ _ refl found.1 found.2
    (words_go (OfClock (λ taken. Gives g.C.Clock c.args.clock.now taken c.stream_at.new.clock) c.args.words.at) (string_bytes c.args.job.request.target) c.args.words c.in-Ok-options_of.options request (selected_in c.in-Ok.settings) _ _ _
    c.in-Ok-options_of.ensures c.stream_at.ensures.streams))

pub returns-in_default-clause-planned : goal.returns-in_default-clause-planned
returns-in_default-clause-planned g c =
    let gave = DiskGives g.D.Disk.answers g.D.Disk.faults (g.D.Disk.files c.args.disk.now) c.args.env.now c.args.disk.now c.select.new.disk in
    job_unselected gave (λ taken. Gives g.C.Clock c.args.clock.now taken c.args.clock.now) c.args.env.now (wanted_of c.args.words) (job_parts c.args.job) unloaded no_memory (g.K.ByteSink.held c.args.out.now)
    (unasked_at (λ taken. Gives g.C.Clock c.args.clock.now taken c.args.clock.now) (given_none g.C.Clock c.args.clock.now) c.args.words.at) tt refl

pub returns-in-Err-clause-planned : goal.returns-in-Err-clause-planned
returns-in-Err-clause-planned g c =
    let gave = DiskGives g.D.Disk.answers g.D.Disk.faults (g.D.Disk.files c.args.disk.now) c.args.env.now c.args.disk.now c.select.new.disk in
    let found = c.in-Err.ensures.selects in
    rw c.from.ensures
    (job_unselected gave (λ taken. Gives g.C.Clock c.args.clock.now taken c.args.clock.now) c.args.env.now (wanted_of c.args.words) (job_parts c.args.job) found.0 (selection_ending c.in-Err.fault) (g.K.ByteSink.held c.args.out.now)
    (unasked_at (λ taken. Gives g.C.Clock c.args.clock.now taken c.args.clock.now) (given_none g.C.Clock c.args.clock.now) c.args.words.at) found.1 found.2)

pub returns-in-Ok-options_of-clause-end : goal.returns-in-Ok-options_of-clause-end
returns-in-Ok-options_of-clause-end g c = rw c.status_of.ensures (ended_after_texts c.stream_at.result)

pub returns-in-Err-clause-end : goal.returns-in-Err-clause-end
returns-in-Err-clause-end g c = rw c.from.ensures (selects_after_texts c.in-Err.fault)

pub returns-in-Ok-options_of-clause-effects : goal.returns-in-Ok-options_of-clause-effects
returns-in-Ok-options_of-clause-effects g c = ended_writes g.D.Disk _ c.stream_at.result _ _ _ _ _ c.status_of.ensures c.stream_at.ensures.counts c.select.ensures.same c.select.ensures.count

pub returns-in-Err-clause-effects : goal.returns-in-Err-clause-effects
returns-in-Err-clause-effects g c = selects_no_more g.D.Disk _ c.in-Err.fault (ending_of c.from.result) _ _ _ c.from.ensures c.in-Err.ensures.named c.select.ensures.same c.select.ensures.count
