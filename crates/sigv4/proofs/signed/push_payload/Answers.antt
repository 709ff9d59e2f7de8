use Rattle.std.proofs.Common.{[], ◌∷◌, ◌++◌, ap, ◌∙◌}
use Rattle.sigv4.specs.Instructions.{Instruction}
use Rattle.sigv4.proofs.signed.push_payload.Goals as goal

pub returns-in_ok-push-in-XAmzSha256 : goal.returns-in_ok-push-in-XAmzSha256
returns-in_ok-push-in-XAmzSha256 c =
    rw c.in-XAmzSha256.is
    (c.in_ok-push-in-XAmzSha256.ensures.items ∙ ap (λ (header : Instruction). c.args.headers.now.items ++ header ∷ []) c.new.ensures)
