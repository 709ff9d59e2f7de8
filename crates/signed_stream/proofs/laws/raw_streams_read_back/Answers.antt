use Rattle.signed_stream.proofs.LawLemmas.{raw_read}
use Rattle.signed_stream.proofs.laws.raw_streams_read_back.Goals as goal

pub returns : goal.returns
returns c files profile env wanted j target moments input raw proper = raw_read input c.chains_read_back.ensures raw proper
