use Rattle.std.proofs.Common.{rules}
use Rattle.aws_chunked.specs.Options.{encoded_length}
use Rattle.aws_chunked.proofs.LengthLemmas.{told_some}
use Rattle.aws_chunked.proofs.options.AwsChunkedBodyOptions.checked_encoded_length.Goals as goal

pub returns-clause-text : goal.returns-clause-text
unfolding encoded_length
returns-clause-text c = told_some c.args.self.now _ (search rules) c.chunks_length.ensures.size
