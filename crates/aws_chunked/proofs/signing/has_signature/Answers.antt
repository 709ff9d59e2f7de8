use Rattle.std.proofs.Common.{sym, ◌∙◌}
use Rattle.std.proofs.lemmas.Bool.{false≢true}
use Rattle.aws_chunked.proofs.SignLemmas.{signed_filled, unsigned_empty}
use Rattle.aws_chunked.proofs.signing.has_signature.Goals as goal

pub returns-then-is_empty : goal.returns-then-is_empty
returns-then-is_empty c = unsigned_empty c.args.is_signed c.args.trailers.now (c.is_empty.ensures.0 c.if-is_empty.true)

pub returns : goal.returns
returns c = signed_filled c.args.is_signed c.args.trailers.now (λ none. false≢true (sym c.if-is_empty.false ∙ c.is_empty.ensures.1 none))
