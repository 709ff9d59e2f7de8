use Rattle.std.proofs.Common.{◌+◌, ◌-◌, length}
use Rattle.aws_chunked.specs.Body.{held_bytes}
use Rattle.aws_chunked.proofs.PullLemmas.{Turned}
use Rattle.aws_chunked.proofs.TurnLemmas.{still}
use Rattle.aws_chunked.proofs.body.AwsChunkedBody.gather.Given as goal

-- frames were taken, so many of them without data
abbrev pub invariant-frames : goal.invariant-frames
invariant-frames g l = Turned g.F.FrameSource l.fn.self l.self l.idle

-- a frame without data counts, another brings bytes, of which less than a chunk is held, or the source has ended
abbrev pub decreases-frames : goal.decreases-frames
decreases-frames g l = (65536 - l.idle) + (8589934592 - length (held_bytes l.self)) + still l.self.came.phase
