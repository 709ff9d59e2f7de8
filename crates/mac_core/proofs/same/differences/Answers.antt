use Rattle.std.proofs.Common.{◌+◌, ◌<◌, length, drop, slice_index_or, arith}
use Rattle.std.proofs.lemmas.List.{drop_more}
use Rattle.mac_core.proofs.SameLemmas.{one_more}
use Rattle.mac_core.proofs.same.differences.Goals as goal

pub loop-index-preserved : goal.loop-index-preserved
loop-index-preserved c =
    let first = c.args.first.now in
    let second = c.args.second.now in
    let at = c.loop-index.index in
    let within : at < length first = omega arith in
    let other : at < length second = omega (arith, c.requires) in
    one_more c.loop-index.differences (slice_index_or first at 0) (slice_index_or second at 0) (drop (at + 1) first) (drop (at + 1) second) first second
    (rw (drop_more first at 0 within, drop_more second at 0 other) at c.loop-index.invariant)
