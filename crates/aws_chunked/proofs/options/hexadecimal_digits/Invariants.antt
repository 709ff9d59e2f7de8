use Rattle.aws_chunked.proofs.DigitLemmas.{Counts}
use Rattle.aws_chunked.proofs.options.hexadecimal_digits.Given as goal

abbrev pub invariant-loop-rest : goal.invariant-loop-rest
invariant-loop-rest l = Counts l.fn.n l.count l.rest

abbrev pub decreases-loop-rest : goal.decreases-loop-rest
decreases-loop-rest l = l.rest
