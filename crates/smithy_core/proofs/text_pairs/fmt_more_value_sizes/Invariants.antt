use Rattle.std.proofs.Common.{◌++◌, codes, take, flat_map}
use Rattle.std.specs.Fmt.{HasWritten, IsPlainFormatter}
use Rattle.smithy_core.specs.TextPairs.{text_pair, value_size}
use Rattle.smithy_core.proofs.text_pairs.fmt_more_value_sizes.Given as goal

abbrev pub invariant-loop-pair : goal.invariant-loop-pair
invariant-loop-pair g l =
    IsPlainFormatter l.fn.f → HasWritten g.W.Write.write_str_gives l.fn.f
    (flat_map (λ pair. codes ", " ++ value_size (text_pair pair)) (take l.pair-index l.pairs)) l.f
