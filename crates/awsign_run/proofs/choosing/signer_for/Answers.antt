use Rattle.std.proofs.Common.{codes, map}
use Rattle.std.specs.Prelude.{string_bytes}
use Rattle.smithy_core.specs.TextPairs.{last_value}
use Rattle.env_config.specs.Sections.{sections}
use Rattle.env_config.specs.Source.{file_of}
use Rattle.aws_settings.specs.Choice.{choice_by, profile_of}
use Rattle.awsign_run.specs.Chosen.{chosen_service, file_paths}
use Rattle.aws_settings.specs.Choice.{settings_seen}
use Rattle.awsign_run.proofs.ChosenLemmas.{nobody_without, settings_filled}
use Rattle.awsign_words.specs.Words.{has}
use Rattle.awsign_run.proofs.choosing.signer_for.Goals as goal

pub returns-in_ok-lacking-in-Err : goal.returns-in_ok-lacking-in-Err
returns-in_ok-lacking-in-Err c =
    let options = c.args.options.now in
    let files = map file_of c.args.source.now.files.items in
    nobody_without (file_paths files)
    (choice_by (has options (codes "--profile")) (last_value options (codes "--region")) c.args.env.now (profile_of (sections files) (string_bytes c.args.source.now.profile)))
    (chosen_service options c.args.host.now) c.in-Err.fault c.in_ok-lacking-in-Err.field-0 (rw (c.names_profile.ensures, c.get-region.ensures) at c.in-Err.ensures)
    c.in_ok-lacking-in-Err.ensures

pub returns-in-Ok : goal.returns-in-Ok
returns-in-Ok c = rw (rw (c.names_profile.ensures, c.get-region.ensures) at c.in-Ok.ensures, ← c.service_of.ensures) c.chosen_for.ensures

pub chosen_for-requires-clause-key_id : goal.chosen_for-requires-clause-key_id
chosen_for-requires-clause-key_id c =
    (settings_filled c.names_profile.result _ c.args.env.now _ (settings_seen c.in-Ok.settings) c.in-Ok.ensures).0

pub chosen_for-requires-clause-secret : goal.chosen_for-requires-clause-secret
chosen_for-requires-clause-secret c =
    (settings_filled c.names_profile.result _ c.args.env.now _ (settings_seen c.in-Ok.settings) c.in-Ok.ensures).1
