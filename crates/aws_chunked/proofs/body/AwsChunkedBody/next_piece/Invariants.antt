use Rattle.aws_chunked.specs.Passing.{TakesOnlyIdleFrames}
use Rattle.aws_chunked.proofs.body.AwsChunkedBody.next_piece.Given as goal

-- so many frames without data were taken, and what is due stays
abbrev pub invariant-loop-idle : goal.invariant-loop-idle
invariant-loop-idle g l = TakesOnlyIdleFrames g.F.FrameSource l.idle l.fn.self l.self
