use Rattle.std.proofs.Common.{◌++◌, codes, take_all}
use Rattle.std.proofs.lemmas.List.Folds.{flat_map-map}
use Rattle.smithy_core.specs.TextPairs.{text_pair, value_size}
use Rattle.smithy_core.proofs.text_pairs.fmt_more_value_sizes.Goals as goal

pub returns : goal.returns
returns g c plain ok =
    let all = take_all c.loop-pair.pair-index c.args.pairs.now c.loop-pair-test.false in
    rw (flat_map-map (λ pair. codes ", " ++ value_size pair) text_pair c.args.pairs.now) (rw all at (c.loop-pair.invariant plain))
