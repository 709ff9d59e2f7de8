use Rattle.event_io.proofs.LawLemmas.{chain_read}
use Rattle.event_io.proofs.laws.chains_read_back.Goals as goal

pub returns : goal.returns
returns c = chain_read
