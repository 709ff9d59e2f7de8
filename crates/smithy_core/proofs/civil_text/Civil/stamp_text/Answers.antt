use Rattle.smithy_core.proofs.CivilTextLemmas.{stamp_utf8}
use Rattle.smithy_core.proofs.civil_text.Civil.stamp_text.Goals as goal

pub unwrap-requires : goal.unwrap-requires
unwrap-requires c = c.from_utf8.ensures.succeeds (rw (c.in_ok-stamp.ensures.items, c.as_slice.ensures, c.stamp.ensures) (stamp_utf8 c.args.self))
