use Rattle.aws_chunked.specs.Signing.{ChunkAnswers}
use Rattle.aws_chunked.proofs.SignLemmas.{signs_some}
use Rattle.aws_chunked.proofs.chunk_engine.ChunkEngine.sign_chunk.Goals as goal

pub returns-in_ok-chunk_signature-in-Some-clause-signs : goal.returns-in_ok-chunk_signature-in-Some-clause-signs
returns-in_ok-chunk_signature-in-Some-clause-signs g c =
    let told = c.in_ok-chunk_signature-in-Some.ensures in
    signs_some (ChunkAnswers g.G.SignChunk c.args.chunk.now) c.args.is_signed c.args.self.now.signer _ c.chunk_signature.new.self _ c.if-not-is_signed.false c.in-Some.is
    (told.signs, told.told)
