use Rattle.std.proofs.Common.{ap, inr, rules, ◌∙◌}
use Rattle.std.proofs.lemmas.Int.{to_z-of_z}
use mir.Syntax.{w64}
use mir.Val.{SFits}
use Rattle.firuvaik_c.specs.Faults.{fault_of_signing}
use Rattle.firuvaik_c.proofs.LinkLemmas.{trailers_able}
use Rattle.firuvaik_c.proofs.chunks.last_trailers.Goals as goal

pub returns-in-Ok : goal.returns-in-Ok
returns-in-Ok c =
    let fits : SFits w64 c.args.seconds = search rules in
    let link = rw (to_z-of_z w64 c.args.seconds fits) at c.in_ok-link.ensures in
    let headers = c.in_ok-headers.ensures in
    let made = rw (link.1, headers.1) at c.in-Ok.ensures in
    let fit = rw headers.1 at c.in_ok-test_headers.ensures in
    (trailers_able c.args.signer.now c.args.seconds c.args.trailers.now c.args.signature.now link.0 headers.0 fit, made.0, made.1)

pub returns : goal.returns
returns c = inr (c.from.ensures ∙ ap fault_of_signing c.in-Err.ensures)
