use Rattle.std.proofs.Common.{map, inr}
use Rattle.env_config.specs.Source.{file_of}
use Rattle.aws_settings.proofs.settings.AwsSettings.from_environment.Goals as goal

pub returns-clause-reads : goal.returns-clause-reads
returns-clause-reads g c =
    let loads = c.in_ok-source.ensures.loads in
    inr (map file_of c.in_ok-source.source.files.items, loads.0, rw loads.1 at c.settings_of.ensures)
