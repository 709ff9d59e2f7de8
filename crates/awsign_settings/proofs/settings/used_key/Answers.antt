use Rattle.std.proofs.Common.{map, ap, ap₂, ◌∙◌}
use Rattle.awsign_run.specs.Chosen.{asked_profile}
use Rattle.awsign_settings.specs.Own.{own_of}
use Rattle.awsign_settings.specs.Settings.{used_key_behind, used_of}
use Rattle.awsign_settings.proofs.SettingsLemmas.{variables_used}
use Rattle.awsign_settings.proofs.settings.used_key.Goals as goal

pub returns-in-Some : goal.returns-in-Some
returns-in-Some c =
    ap₂ (variables_used (used_of c.in-Some.key_id)) c.from_variable.ensures c.from_variable-in-Some.ensures
    ∙ ap (used_key_behind c.args.env.now (asked_profile c.args.options.now c.args.env.now) (map own_of c.args.owns.now)) c.in-Some.ensures
