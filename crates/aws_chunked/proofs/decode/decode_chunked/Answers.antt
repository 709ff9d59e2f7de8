use Rattle.aws_chunked.specs.Decoded.{IsText}
use Rattle.aws_chunked.proofs.PlaceLemmas.{place_of}
use Rattle.aws_chunked.proofs.decode.decode_chunked.Goals as goal

pub returns-in-Err-Bad-clause-reads : goal.returns-in-Err-Bad-clause-reads
returns-in-Err-Bad-clause-reads c = place_of IsText _ _ _ c.in-Err-Bad.field-0-is c.in-Err-Bad.ensures
