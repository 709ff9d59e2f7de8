use Rattle.sigv4.proofs.SignedLemmas.{target-signed}
use Rattle.sigv4.proofs.laws.instructions_make_the_signed_request.Goals as goal

pub returns-clause-target : goal.returns-clause-target
returns-clause-target c = target-signed
