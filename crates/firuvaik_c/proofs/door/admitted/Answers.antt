use Rattle.std.proofs.Common.{rules}
use Rattle.std.proofs.lemmas.Int.{to_z-of_z}
use mir.Syntax.{w64}
use mir.Val.{SFits}
use Rattle.firuvaik_c.proofs.DoorLemmas.{answers_lent, asked_if}
use Rattle.firuvaik_c.proofs.door.admitted.Goals as goal

pub returns : goal.returns
returns c =
    let fits : SFits w64 c.args.seconds = search rules in
    let read = asked_if _ _ _ _ _ (rw c.has_flag.ensures at c.if-has_flag.false) c.in_ok-region.ensures.0 c.in_ok-name.ensures.0 c.in_ok-sent.ensures.0 c.in_ok-keys.ensures.0 in
    answers_lent c.args.service.now c.args.request.now c.args.seconds c.in_ok-sent.sent _ read c.in_ok-sent.ensures.1
    (rw (c.in_ok-region.ensures.1, c.in_ok-name.ensures.1, c.in_ok-keys.ensures.1, to_z-of_z w64 c.args.seconds fits) at c.answered.ensures)
