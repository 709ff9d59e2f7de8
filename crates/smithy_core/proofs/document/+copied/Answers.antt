use Rattle.std.proofs.Common.{arith, map, ap, ◌∙◌}
use Rattle.std.proofs.lemmas.List.{take_all}
use Rattle.smithy_core.proofs.DocumentLemmas.{named, same_members}
use Rattle.smithy_core.proofs.document.+copied.Goals as goal

pub copied_members-returns : goal.copied_members-returns
copied_members-returns t c =
    let members = c.deref-member-items.result.now in
    let whole = take_all c.loop-member.member-index members (omega arith) ∙ c.deref-member-items.ensures.value in
    same_members c.loop-member.copies.items c.args.members.now.items (c.loop-member.invariant ∙ ap (map named) whole)
