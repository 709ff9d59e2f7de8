use Rattle.std.proofs.Common.{◌<◌, ◌∙◌, arith, length}
use Rattle.std.proofs.lemmas.Bool.Decides.{nat_tests}
use Rattle.awsign_chunk.proofs.SendingLemmas.{piece_unwritten, piece_written}
use Rattle.awsign_chunk.proofs.send.write_chunk.Goals as goal

pub returns-in_err-text-clause-writes : goal.returns-in_err-text-clause-writes
returns-in_err-text-clause-writes g c = λ before who t size over years some within.
    piece_unwritten c.args.is_signed who t size before c.args.piece.items _ _ c.from_residual.result c.from_residual.ensures.1

pub returns-clause-writes : goal.returns-clause-writes
returns-clause-writes g c = λ before who t size over years some within.
    let made = c.in_ok-text.ensures before who t over years in
    let wrote = c.write_piece.ensures in
    let some_bytes : 0 < length c.args.piece.items = grind (arith, nat_tests, c.is_empty.ensures, c.if-is_empty.false) in
    piece_written c.args.is_signed who t size before c.args.piece.items c.as_slice-2.result.now _ _ _ c.write_piece.result some some_bytes within
    (c.as_slice-2.ensures.value ∙ made.0) made.1 wrote.ok wrote.err wrote.why
