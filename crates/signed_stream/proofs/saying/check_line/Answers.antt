use Rattle.std.proofs.Common.{append_assoc, refl, ◌∙◌}
use Rattle.std.proofs.lemmas.Result.{IfOk-weaker}
use Rattle.signed_stream.proofs.saying.check_line.Goals as goal

pub returns : goal.returns
returns c =
    IfOk-weaker c.format.result _ _ (λ text same. same ∙ simp (c.failed_at-frame.ensures.frame, c.failed_at-frame.ensures.part, append_assoc) refl) c.format.ensures.ok
