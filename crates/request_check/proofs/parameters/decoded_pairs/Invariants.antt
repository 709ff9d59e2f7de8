use Rattle.std.proofs.Common.{◌≡◌, ◌++◌, map}
use Rattle.form_urlencoded.specs.Form.{raw_pairs}
use Rattle.form_urlencoded.specs.Parse.{pairs_left}
use Rattle.smithy_core.specs.TextPairs.{text_pairs}
use Rattle.sigv4.specs.Query.{decoded_pair}
use Rattle.request_check.proofs.parameters.decoded_pairs.Given as goal

-- the pairs so far, and those that are left
abbrev pub invariant-loop-pair : goal.invariant-loop-pair
invariant-loop-pair l =
    (goal.iterator-loop-pair).can_next l.pair-iterator × (goal.iterator-loop-pair).is_finite l.pair-iterator
    × (text_pairs l.pairs.items ++ map decoded_pair (pairs_left l.pair-iterator) ≡ map decoded_pair (raw_pairs l.query))
