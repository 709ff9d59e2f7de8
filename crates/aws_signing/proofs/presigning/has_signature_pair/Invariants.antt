use Rattle.std.proofs.Common.{◌≡◌, drop}
use Rattle.smithy_core.specs.TextPairs.{text_pairs}
use Rattle.aws_signing.specs.Presigning.{has_signature_pair}
use Rattle.aws_signing.proofs.presigning.has_signature_pair.Given as goal

-- all pairs have a signature exactly where those to come have one
abbrev pub invariant-loop-key : goal.invariant-loop-key
invariant-loop-key l = has_signature_pair (text_pairs (drop l.key-index l.pairs)) ≡ has_signature_pair (text_pairs l.pairs)
