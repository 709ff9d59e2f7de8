use Rattle.std.proofs.Common.{rules}
use Rattle.std.proofs.lemmas.Int.{to_z-of_z}
use mir.Syntax.{w64}
use mir.Val.{SFits}
use Rattle.firuvaik_c.proofs.LinkLemmas.{frame_made, frame_refused}
use Rattle.firuvaik_c.proofs.events.next_frame.Goals as goal

pub returns-in-Ok : goal.returns-in-Ok
returns-in-Ok c =
    let fits : SFits w64 c.args.seconds = search rules in
    let link = rw (to_z-of_z w64 c.args.seconds fits) at c.in_ok-link.ensures in
    frame_made c.args.signer.now c.args.seconds c.args.event.now c.args.signature.now c.in-Ok.made link.0 (rw link.1 at c.in-Ok.ensures)

pub returns : goal.returns
returns c =
    let fits : SFits w64 c.args.seconds = search rules in
    let link = rw (to_z-of_z w64 c.args.seconds fits) at c.in_ok-link.ensures in
    frame_refused c.args.signer.now c.args.seconds c.args.event.now c.args.signature.now c.in-Err.error _ link.0 c.from.ensures (rw link.1 at c.in-Err.ensures)
