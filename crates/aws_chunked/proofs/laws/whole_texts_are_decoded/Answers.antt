use Rattle.aws_chunked.proofs.LawLemmas.{whole_decoded}
use Rattle.aws_chunked.proofs.laws.whole_texts_are_decoded.Goals as goal

pub returns : goal.returns
returns c = whole_decoded
