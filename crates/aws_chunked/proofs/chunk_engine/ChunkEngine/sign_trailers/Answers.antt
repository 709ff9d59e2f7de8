use Rattle.std.proofs.Common.{refl}
use Rattle.aws_chunked.specs.Signing.{TrailerAnswers}
use Rattle.aws_chunked.proofs.SignLemmas.{signs_trailers}
use Rattle.aws_chunked.proofs.chunk_engine.ChunkEngine.sign_trailers.Goals as goal

pub returns-in_ok-trailer_signature-in-Some-signer-clause-signs : goal.returns-in_ok-trailer_signature-in-Some-signer-clause-signs
returns-in_ok-trailer_signature-in-Some-signer-clause-signs g c =
    let told = c.in_ok-trailer_signature-in-Some-signer.ensures in
    signs_trailers (TrailerAnswers g.G.SignChunk) c.args.is_signed c.args.is_signed _ c.args.trailers.now _ c.args.self.now.signer _ c.trailer_signature.new.self _
    c.in-Some.is refl c.has_signature.ensures c.if-not-has_signature.false c.in-Some-signer.is (told.closes, told.told)
