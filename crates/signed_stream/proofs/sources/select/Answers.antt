use Rattle.std.proofs.Common.{map}
use Rattle.std.proofs.lemmas.Result.{err_from_is_err_and}
use Rattle.std.specs.Option.{option_copied}
use Rattle.signed_stream.specs.ProfileOptions.{place_of}
use Rattle.job_text.specs.ProfileTexts.{texts_of}
use Rattle.signed_stream.specs.Selecting.{selection_ending}
use Rattle.signed_stream.proofs.SourceLemmas.{load_names, load_selects, settings_lack, settings_select}
use Rattle.signed_stream.proofs.sources.select.Goals as goal

pub returns-in_err-source-clause-selects : goal.returns-in_err-source-clause-selects
returns-in_err-source-clause-selects g c =
    let exit = err_from_is_err_and c.from_residual.result c.from_residual.ensures.1 in
    rw exit.1 (load_selects g.D.Disk.answers g.D.Disk.faults (g.D.Disk.files c.args.disk.now) c.args.env.now _ (option_copied c.args.options.now.service_id) c.args.disk.now c.load_source.new.disk c.in_err-source.field-0.0 (selection_ending exit.0) c.in_err-source.ensures.loads exit.2)

pub returns-in_err-source-clause-named : goal.returns-in_err-source-clause-named
returns-in_err-source-clause-named g c =
    let exit = err_from_is_err_and c.from_residual.result c.from_residual.ensures.1 in
    rw exit.1 (λ path is. load_names g.D.Disk.answers g.D.Disk.faults (g.D.Disk.files c.args.disk.now) c.args.env.now (map place_of c.args.options.now.files.items) (texts_of c.args.texts) c.args.disk.now c.load_source.new.disk c.in_err-source.field-0.0 (selection_ending exit.0) path c.in_err-source.ensures.loads exit.2 is)

pub returns-in_err-read_settings-clause-selects : goal.returns-in_err-read_settings-clause-selects
returns-in_err-read_settings-clause-selects g c =
    let exit = err_from_is_err_and c.from_residual-in_err-read_settings.result c.from_residual-in_err-read_settings.ensures.1 in
    rw exit.1 (settings_lack g.D.Disk.answers g.D.Disk.faults (g.D.Disk.files c.args.disk.now) c.args.env.now _ (option_copied c.args.options.now.service_id) c.args.disk.now c.load_source.new.disk c.in_ok-source.source c.in_err-read_settings.field-0.0 (selection_ending exit.0)
    c.in_ok-source.ensures.loads c.in_err-read_settings.ensures.settings exit.2)

pub returns-clause-selects : goal.returns-clause-selects
returns-clause-selects g c =
    settings_select g.D.Disk.answers g.D.Disk.faults (g.D.Disk.files c.args.disk.now) c.args.env.now _ (option_copied c.args.options.now.service_id) c.args.disk.now c.load_source.new.disk c.in_ok-source.source c.in_ok-read_settings.field-0
    c.in_ok-source.ensures.loads c.in_ok-read_settings.ensures.settings
