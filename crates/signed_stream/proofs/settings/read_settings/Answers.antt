use Rattle.std.proofs.Common.{map, string_bytes}
use Rattle.std.specs.Prelude.{option_copied}
use Rattle.env_config.specs.Sections.{sections}
use Rattle.env_config.specs.Source.{file_of}
use Rattle.signed_stream.specs.Settings.{settings}
use Rattle.signed_stream.proofs.SettingsLemmas.{settings_given}
use Rattle.signed_stream.proofs.settings.read_settings.Goals as goal

pub returns-clause-settings : goal.returns-clause-settings
unfolding settings
returns-clause-settings c =
    settings_given (sections (map file_of c.args.source.now.files.items)) (string_bytes c.args.source.now.profile) c.args.env.now (option_copied c.args.service_id) c.in_ok-profile.profile c.settings_in.result
    c.in_ok-profile.ensures c.settings_in.ensures.settings
