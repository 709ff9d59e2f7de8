use Rattle.signed_stream.proofs.LawLemmas.{raw_accepted}
use Rattle.signed_stream.proofs.laws.raw_streams_are_accepted.Goals as goal

pub returns : goal.returns
returns c files profile env wanted j target moments input raw proper = raw_accepted input c.written_chains_are_accepted.ensures raw proper
