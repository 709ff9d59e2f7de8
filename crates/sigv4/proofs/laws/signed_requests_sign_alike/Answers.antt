use Rattle.sigv4.proofs.AgainLemmas.{same_signature, same_target}
use Rattle.sigv4.proofs.laws.signed_requests_sign_alike.Goals as goal

pub returns-clause-target : goal.returns-clause-target
returns-clause-target c = same_target

pub returns-clause-signature : goal.returns-clause-signature
returns-clause-signature c = same_signature
