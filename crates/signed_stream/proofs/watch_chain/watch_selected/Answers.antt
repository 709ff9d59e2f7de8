use Rattle.std.proofs.Common.{◌∙◌}
use Rattle.signed_stream.specs.Settings.{selected_in}
use Rattle.signed_stream.specs.Status.{ending_of}
use Rattle.signed_stream.specs.WatchChain.{watch_signer}
use Rattle.signed_stream.specs.WatchWords.{watch_wanted}
use Rattle.signed_stream.proofs.ProgressLemmas.{fit_new, watched_all, watched_none, watched_some}
use Rattle.signed_stream.proofs.watch_chain.watch_selected.Goals as goal

pub returns-in_default-clause-watches : goal.returns-in_default-clause-watches
returns-in_default-clause-watches g c =
    watched_none (watch_signer (watch_wanted c.args.words.now) (selected_in c.args.settings.now)) c.args.words.now.seed.now (g.S.ByteSource.left c.args.input.now) (g.K.ByteSink.held c.args.out.now)

pub read-requires-clause-fits : goal.read-requires-clause-fits
read-requires-clause-fits g c =
    fit_new _ _ c.new-progress.result (c.new-progress.ensures.watch ∙ c.in-Ok.ensures) c.new-progress.ensures.waiting c.new-progress.ensures.shown

pub returns-in-Ok-read-clause-watches : goal.returns-in-Ok-read-clause-watches
returns-in-Ok-read-clause-watches g c =
    let made = rw (c.secret_access_key-secret.ensures, c.as_str-region.ensures) at c.in-Ok.ensures in
    let watch = c.new-progress.ensures.watch ∙ made in
    watched_all (watch_signer (watch_wanted c.args.words.now) (selected_in c.args.settings.now)) c.args.words.now.seed.now c.new-progress.result c.read.new.self (g.S.ByteSource.left c.args.input.now)
    (g.S.ByteSource.left c.read.new.input) (ending_of c.finish.result) (g.K.ByteSink.held c.args.out.now) (g.K.ByteSink.held c.read.new.out) (g.K.ByteSink.held c.finish.new.out) watch
    c.new-progress.ensures.waiting c.new-progress.ensures.shown c.in-Ok-read.ensures.fit c.in-Ok-read.ensures.reads c.finish.ensures.ends

pub returns-in-Err-clause-watches : goal.returns-in-Err-clause-watches
returns-in-Err-clause-watches g c =
    let made = rw (c.secret_access_key-secret.ensures, c.as_str-region.ensures) at c.in-Ok.ensures in
    let watch = c.new-progress.ensures.watch ∙ made in
    watched_some (watch_signer (watch_wanted c.args.words.now) (selected_in c.args.settings.now)) c.args.words.now.seed.now c.new-progress.result (g.S.ByteSource.left c.args.input.now)
    (g.S.ByteSource.left c.read.new.input) (ending_of c.in-Err.status) (g.K.ByteSink.held c.args.out.now) (g.K.ByteSink.held c.read.new.out) watch c.new-progress.ensures.waiting c.in-Err.ensures.reads
