use Rattle.std.proofs.Common.{ℕ, List, ap₂, ◌∙◌}
use Rattle.sigv4.specs.Instructions.{Instruction, Instructions}
use Rattle.sigv4.proofs.CopyLemmas.{headers_copied, pairs_copied}
use Rattle.sigv4.proofs.instructions.SigningInstructions.try_clone.Goals as goal

-- headers and parameters that are copied are the same
together : List Instruction → List (List ℕ × List ℕ) → Instructions
together headers params = record { headers = headers; params = params }

pub returns : goal.returns
unfolding together
returns c =
    ap₂ together (headers_copied c.self.inside.headers.items c.in_ok-clone.field-0.items c.in_ok-clone.ensures.cases.0)
    (pairs_copied c.self.inside.params.items c.in_ok-clone-2.field-0.items c.in_ok-clone-2.ensures.cases.0)
    ∙ c.self.view_is
