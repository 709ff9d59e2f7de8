use Rattle.std.proofs.Common.{rules}
use Rattle.aws_chunked.proofs.LengthLemmas.{told_in}
use Rattle.aws_chunked.proofs.options.AwsChunkedBodyOptions.encoded_length.Goals as goal

pub returns-clause-text : goal.returns-clause-text
returns-clause-text c = told_in c.args.self.now c.checked_encoded_length.result c.unwrap.result c.checked_encoded_length.ensures.text (search rules)
