use Rattle.std.proofs.Common.{◌≡◌, map, take}
use Rattle.smithy_core.specs.Document.{data_of}
use Rattle.smithy_core.proofs.DocumentLemmas.{named}
use Rattle.smithy_core.proofs.document.+copied.Given as goal

-- the items that passed are copied
abbrev pub invariant-copied_items-loop-item : goal.invariant-copied_items-loop-item
invariant-copied_items-loop-item l = map data_of l.copies.items ≡ map data_of (take l.item-index l.item-items)

-- the members that passed are copied
abbrev pub invariant-copied_members-loop-member : goal.invariant-copied_members-loop-member
invariant-copied_members-loop-member l = map named l.copies.items ≡ map named (take l.member-index l.member-items)
