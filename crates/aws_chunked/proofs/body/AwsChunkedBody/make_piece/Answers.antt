use Rattle.std.proofs.lemmas.Result.{err_from_is_err_and}
use Rattle.aws_chunked.proofs.PassLemmas.{line_made, lines_lack, lines_made, trailers_lack}
use Rattle.aws_chunked.proofs.body.AwsChunkedBody.make_piece.Goals as goal

pub returns-in_err-test_stream_length-in-EmptyChunk-Trailers : goal.returns-in_err-test_stream_length-in-EmptyChunk-Trailers
returns-in_err-test_stream_length-in-EmptyChunk-Trailers g c =
    let from = c.from_residual-in_err-test_stream_length-in-EmptyChunk-Trailers in
    let exit = err_from_is_err_and from.result from.ensures.1 in
    rw (exit.1, exit.2)
    (trailers_lack g.F.FrameSource c.args.self.now _ c.in-EmptyChunk-Trailers.is-1 c.in-EmptyChunk-Trailers.is-0 c.in_err-test_stream_length-in-EmptyChunk-Trailers.ensures)

pub returns-in_err-lines-in-EmptyChunk-Ended : goal.returns-in_err-lines-in-EmptyChunk-Ended
returns-in_err-lines-in-EmptyChunk-Ended g c =
    let from = c.from_residual-in_err-lines-in-EmptyChunk-Ended in
    let exit = err_from_is_err_and from.result from.ensures.1 in
    rw (exit.1, exit.2)
    (lines_lack g.F.FrameSource c.args.self.now _ c.in-EmptyChunk-Ended.is-1 c.in-EmptyChunk-Ended.is-0 c.in_err-lines-in-EmptyChunk-Ended.ensures)

pub returns-in_ok-make_length_line-in-Nothing-default : goal.returns-in_ok-make_length_line-in-Nothing-default
returns-in_ok-make_length_line-in-Nothing-default g c =
    let told = c.in_ok-make_length_line-in-Nothing-default.ensures in
    line_made g.F.FrameSource c.args.self.now c.make_length_line.new.self c.in_ok-make_length_line-in-Nothing-default.field-0 c.requires c.in-Nothing-default.is-0
    (rw c.stream_length-length.ensures at told.made) (rw c.stream_length-length.ensures at told.ok)

pub returns-in_ok-lines-in-EmptyChunk-Ended : goal.returns-in_ok-lines-in-EmptyChunk-Ended
returns-in_ok-lines-in-EmptyChunk-Ended g c =
    lines_made g.F.FrameSource c.args.self.now c.in_ok-lines-in-EmptyChunk-Ended.lines c.in-EmptyChunk-Ended.is-1 c.in-EmptyChunk-Ended.is-0
    c.in_ok-lines-in-EmptyChunk-Ended.ensures
