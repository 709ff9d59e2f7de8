use Rattle.std.proofs.Common.{map}
use Rattle.std.specs.Prelude.{string_bytes}
use Rattle.env_config.specs.Sections.{sections}
use Rattle.env_config.specs.Source.{file_of}
use Rattle.aws_settings.proofs.ProfileLemmas.{profile_read, profile_refused}
use Rattle.aws_settings.proofs.profile.read_profile.Goals as goal

pub returns-in-Ok : goal.returns-in-Ok
returns-in-Ok c =
    rw (profile_read (sections (map file_of c.args.source.now.files.items)) (string_bytes c.args.source.now.profile) c.in-Ok.profile c.in-Ok.ensures, ← c.as_str.ensures.value)
    c.given_values.ensures

pub returns-in-Err : goal.returns-in-Err
returns-in-Err c =
    rw c.from.ensures
    (profile_refused (sections (map file_of c.args.source.now.files.items)) (string_bytes c.args.source.now.profile) c.in-Err.fault c.in-Err.ensures)
