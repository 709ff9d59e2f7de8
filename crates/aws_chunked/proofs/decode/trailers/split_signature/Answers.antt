use Rattle.std.proofs.Common.{refl}
use Rattle.std.proofs.lemmas.Bool.{false≢true}
use Rattle.aws_chunked.proofs.TailReadLemmas.{split_last, split_none}
use Rattle.aws_chunked.proofs.decode.trailers.split_signature.Goals as goal

pub returns-then-signs : goal.returns-then-signs
returns-then-signs c =
    let is = c.if-signs.ensures.0 refl in
    split_last _ _ _ _ c.if-not-is_signed.false c.in-Some.ensures.cases.0 is.0 is.1 is.2

pub returns-else-signs : goal.returns-else-signs
returns-else-signs c = split_none _ _ _ _ c.if-not-is_signed.false c.in-Some.ensures.cases.0 (λ is. false≢true (c.if-signs.ensures.1 is))
