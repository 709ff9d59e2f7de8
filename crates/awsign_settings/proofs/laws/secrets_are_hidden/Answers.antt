use Rattle.awsign_settings.proofs.LinesLemmas.{secrets_hidden}
use Rattle.awsign_settings.proofs.laws.secrets_are_hidden.Goals as goal

pub returns : goal.returns
returns c = λ paths secret token settings. secrets_hidden paths secret token settings
