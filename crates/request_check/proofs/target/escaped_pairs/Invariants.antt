use Rattle.std.proofs.Common.{◌≡◌, ◌++◌, map, drop}
use Rattle.smithy_core.specs.TextPairs.{text_pairs}
use Rattle.smithy_http.specs.QueryWriter.{escaped_pair}
use Rattle.sigv4.specs.Settings.{settings_of}
use Rattle.request_check.specs.Recomputed.{sent_pairs}
use Rattle.request_check.proofs.target.escaped_pairs.Given as goal

-- what was added and the signed pairs among those to come are all of them
abbrev pub invariant-loop-key : goal.invariant-loop-key
invariant-loop-key l =
    l.escaped ++ map escaped_pair (sent_pairs l.place (settings_of l.settings) (text_pairs (drop l.key-index l.pairs)))
    ≡ map escaped_pair (sent_pairs l.place (settings_of l.settings) (text_pairs l.pairs))
