use Rattle.std.proofs.Common.{ap, length, ◌∙◌}
use Rattle.firuvaik_c.proofs.LinkLemmas.{length-link_signature}
use Rattle.firuvaik_c.proofs.events.linked.Goals as goal

pub code_of-signature-requires : goal.code_of-signature-requires
code_of-signature-requires c = ap (λ text. length text) c.in_ok-signed.ensures.2 ∙ length-link_signature _ _ _ _
