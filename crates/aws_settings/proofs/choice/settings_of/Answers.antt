use Rattle.std.proofs.Common.{map}
use Rattle.std.specs.Prelude.{option_copied, string_bytes}
use Rattle.env_config.specs.Sections.{sections}
use Rattle.env_config.specs.Source.{file_of}
use Rattle.aws_settings.specs.Choice.{profile_of}
use Rattle.aws_settings.proofs.ChoiceLemmas.{nothing_without}
use Rattle.aws_settings.proofs.choice.settings_of.Goals as goal

pub returns-in-Ok : goal.returns-in-Ok
returns-in-Ok c = rw c.in-Ok.ensures c.choose_settings.ensures

pub returns-in-Err : goal.returns-in-Err
returns-in-Err c =
    nothing_without c.args.names_profile (option_copied c.args.region) c.args.env.now
    (profile_of (sections (map file_of c.args.source.now.files.items)) (string_bytes c.args.source.now.profile)) c.in-Err.fault c.in-Err.ensures
