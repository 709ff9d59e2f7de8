use Rattle.std.proofs.Common.{◌≡◌, take}
use Rattle.aws_intercept.proofs.id_generator.copied_ids.Given as goal

abbrev pub invariant-loop-id : goal.invariant-loop-id
invariant-loop-id l = l.copies.items ≡ take l.id-index l.ids
