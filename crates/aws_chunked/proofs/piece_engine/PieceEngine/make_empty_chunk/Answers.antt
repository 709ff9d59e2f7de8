use Rattle.std.proofs.Common.{refl}
use Rattle.aws_chunked.proofs.PiecesDueLemmas.{empty_chunk_is}
use Rattle.aws_chunked.proofs.piece_engine.PieceEngine.make_empty_chunk.Goals as goal

pub returns : goal.returns
returns c = (empty_chunk_is c.from_static.result c.from_static.ensures, c.in_ok-test_stream_length.ensures, refl)
