use Rattle.std.proofs.Common.{ap, rules, ◌∙◌}
use Rattle.std.proofs.lemmas.Int.{to_z-of_z}
use mir.Syntax.{w64}
use mir.Val.{SFits}
use Rattle.smithy_core.specs.TextPairs.{first_value}
use Rattle.firuvaik_c.specs.Asked.{moment_at}
use Rattle.firuvaik_c.proofs.DoorLemmas.{length-admitted, lets_in, refuses, same_refusal}
use Rattle.firuvaik_c.proofs.door.answered.Goals as goal

pub entry_of-requires : goal.entry_of-requires
entry_of-requires c = length-admitted _ _ c.in-Ok.ensures

pub returns-in-Ok : goal.returns-in-Ok
returns-in-Ok c =
    let fits : SFits w64 c.args.seconds = search rules in
    let when = c.new-now.ensures ∙ ap moment_at (to_z-of_z w64 c.args.seconds fits) in
    let is = rw (c.in_ok-settings.ensures, when, c.from.ensures) at c.in-Ok.ensures in
    lets_in _ c.args.service.now.keys.now c.in-Ok.admitted _ is (rw c.requires at is.key.known) c.entry_of.ensures

pub returns : goal.returns
returns c =
    let fits : SFits w64 c.args.seconds = search rules in
    let when = c.new-now.ensures ∙ ap moment_at (to_z-of_z w64 c.args.seconds fits) in
    refuses _ c.args.service.now.keys.now c.in-Err.fault _ c.door_fault.ensures
    (same_refusal c.args.sent.now c.args.body.now c.args.region.now c.args.name.now (first_value c.args.keys.now) _ _ _ _ c.args.service.now.skew _ _ c.in-Err.fault
    c.in_ok-settings.ensures when c.from.ensures c.in-Err.ensures)
