use Rattle.aws_chunked.proofs.DigitLemmas.{counts_more}
use Rattle.aws_chunked.proofs.options.hexadecimal_digits.Goals as goal

pub loop-rest-preserved : goal.loop-rest-preserved
loop-rest-preserved c = counts_more c.args.n c.loop-rest.count c.loop-rest.rest c.loop-rest.invariant c.loop-rest-test.true
