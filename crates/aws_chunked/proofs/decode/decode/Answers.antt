use Rattle.aws_chunked.specs.Rests.{ReadsWhole}
use Rattle.aws_chunked.proofs.FollowLemmas.{stops_rest}
use Rattle.aws_chunked.proofs.ReadLemmas.{err_exit}
use Rattle.aws_chunked.proofs.TailReadLemmas.{only_read, whole_read}
use Rattle.aws_chunked.proofs.decode.decode.Goals as goal

pub returns-in_err-chunks : goal.returns-in_err-chunks
returns-in_err-chunks c = err_exit (ReadsWhole c.args.bytes.now) _ _ c.from_residual.ensures.1 c.in_err-chunks.ensures

pub returns-in_err-trailers : goal.returns-in_err-trailers
returns-in_err-trailers c =
    let k = c.in_ok-chunks.ensures in
    err_exit (ReadsWhole c.args.bytes.now) _ _ c.from_residual-in_err-trailers.ensures.1 (stops_rest _ _ _ _ _ _ _ _ k.1 k.2 c.in_err-trailers.ensures)

pub returns : goal.returns
returns c =
    let k = c.in_ok-chunks.ensures in
    let t = c.in_ok-trailers.ensures in
    let body = c.in_ok-shared.ensures in
    (whole_read _ _ _ _ _ _ _ _ _ _ k.2 k.1 t.2 body t.1, only_read _ _ _ _ _ _ _ _ _ _ k.2 k.1 t.3 body t.1)
