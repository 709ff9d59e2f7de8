use Rattle.std.proofs.Common.{ap, inr, rules, ◌∙◌}
use Rattle.std.proofs.lemmas.Int.{to_z-of_z}
use mir.Syntax.{w64}
use mir.Val.{SFits}
use Rattle.firuvaik_c.specs.Faults.{fault_of_signing}
use Rattle.firuvaik_c.proofs.chunks.next_chunk.Goals as goal

pub returns-in-Ok : goal.returns-in-Ok
returns-in-Ok c =
    let fits : SFits w64 c.args.seconds = search rules in
    let link = rw (to_z-of_z w64 c.args.seconds fits) at c.in_ok-link.ensures in
    let made = rw link.1 at c.in-Ok.ensures in
    (link.0, made.0, made.1)

pub returns : goal.returns
returns c = inr (c.from.ensures ∙ ap fault_of_signing c.in-Err.ensures)
