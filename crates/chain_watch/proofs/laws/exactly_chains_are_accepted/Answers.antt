use Rattle.chain_watch.proofs.AcceptedLemmas.{exactly_chain}
use Rattle.chain_watch.proofs.laws.exactly_chains_are_accepted.Goals as goal

pub returns : goal.returns
returns c = exactly_chain
