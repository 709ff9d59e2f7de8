use Rattle.std.proofs.Common.{◌≡◌, ◌+◌, ◌≤◌}
use Rattle.std.specs.Prelude.{vec_capacity, vec_len}
use Rattle.std.specs.Vec.Iter.{into_iter_items, into_iter_len}
use Rattle.smithy_core.specs.TextPairs.{all_inserted, text_pairs}
use Rattle.smithy_core.proofs.headers.put_all.Given as goal

-- there is room for the pairs to come, and with them the pairs are all
abbrev pub invariant-loop-name : goal.invariant-loop-name
invariant-loop-name l =
    (vec_len l.pairs + into_iter_len l.name-iterator ≤ vec_capacity l.pairs)
    × (all_inserted (text_pairs l.pairs.items) (text_pairs (into_iter_items l.name-iterator)) ≡ all_inserted (text_pairs l.fn.pairs.items) (text_pairs l.fn.more.items))
