use Rattle.awsign_settings.proofs.UsedLemmas.{printed_chosen}
use Rattle.awsign_settings.proofs.laws.settings_are_used.Goals as goal

pub returns : goal.returns
returns c = λ options env files. printed_chosen options env files
