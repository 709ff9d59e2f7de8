use Rattle.std.proofs.Common.{arith}
use Rattle.aws_chunked.proofs.PullLemmas.{tests_end, tests_last, tests_more}
use Rattle.aws_chunked.proofs.body.AwsChunkedBody.is_at_hand.Goals as goal

pub returns-in_default : goal.returns-in_default
returns-in_default g c =
    tests_last c.args.self.now c.in_default.not-Data c.in_default.not-Closed c.chunk_size-size.ensures.range.0
    (omega (arith, c.if-held-gt0.true, c.remaining-held.ensures))

pub returns-in_ok-test_stream_length-in-Trailers : goal.returns-in_ok-test_stream_length-in-Trailers
returns-in_ok-test_stream_length-in-Trailers g c =
    tests_more c.args.self.now (cc) c.chunk_size-size.ensures.range.0 c.chunk_size-size.ensures.range.1 (omega (arith, c.if-held-gt0.false, c.remaining-held.ensures))
    c.in_ok-test_stream_length-in-Trailers.ensures

pub returns-in_ok-test_stream_length-in-Ended : goal.returns-in_ok-test_stream_length-in-Ended
returns-in_ok-test_stream_length-in-Ended g c =
    tests_end c.args.self.now (cc) c.chunk_size-size.ensures.range.0 c.in_ok-test_stream_length-in-Ended.ensures
