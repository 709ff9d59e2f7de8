use Rattle.chain_watch.proofs.CallLemmas.{answers_walk}
use Rattle.chain_watch.proofs.laws.watches_never_trust_early.Goals as goal

pub returns-clause-answers : goal.returns-clause-answers
returns-clause-answers c = answers_walk
