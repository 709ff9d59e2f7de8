use Rattle.std.proofs.Common.{◌≡◌, [], ◌∙◌, sym}
use Rattle.env_config.specs.Files.{chosen_places}
use Rattle.awsign_run.proofs.FileLemmas.{some_named}
use Rattle.awsign_run.proofs.run.built.Goals as goal

pub returns-in-Ok : goal.returns-in-Ok
returns-in-Ok c = c.in-Ok.ensures.0 ∙ sym (some_named _ c.in-Ok.ensures.1)

pub returns-in-Err-NoFiles : goal.returns-in-Err-NoFiles
returns-in-Err-NoFiles c =
    let none : chosen_places c.args.builder ≡ [] = rw c.in-Err-NoFiles.field-0-is at c.in-Err-NoFiles.ensures in rw none c.default_files.ensures
