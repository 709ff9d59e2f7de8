use Rattle.aws_auth.proofs.MessageSignerLemmas.{key_cloned, key_copied}
use Rattle.aws_auth.proofs.message_signer.SigV4MessageSigner.try_clone.Goals as goal

pub invariant_of-result : goal.invariant_of-result
invariant_of-result g c = (
  key_copied c.self.inside.identity _ _ _ _ _ _ _ c.in_ok-try_clone.ensures c.in_ok-try_clone-2.ensures c.in_ok-try_clone-3.ensures
      (key_cloned _ _ _ c.as_ref.ensures.value c.in_ok-cloned.ensures) c.self.invariant.0,
  tt,
)
