use Rattle.awsign_text.proofs.CurlLemmas.{request_reads}
use Rattle.awsign_text.proofs.laws.config_reads_back.Goals as goal

pub returns : goal.returns
returns c method target headers file = request_reads method target headers file
