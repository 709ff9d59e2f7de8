use Rattle.std.proofs.Common.{sym, ◌∙◌}
use Rattle.request_door.proofs.DoorLabelLemmas.{label_behind}
use Rattle.request_door.proofs.authorization.labelled.Goals as goal

pub returns-else-are_blank : goal.returns-else-are_blank
returns-else-are_blank c =
    label_behind c.args.label.now c.args.text.now (c.in_ok-front.front, c.in_ok-front.labelled) c.requires c.in_ok-front.ensures (sym c.are_blank.ensures ∙ c.if-are_blank.false)
