use Rattle.std.proofs.Common.{◌+◌, ◌-◌, length}
use Rattle.event_io.specs.Frames.{most_idle}
use Rattle.event_io.specs.Receiver.{taken_bytes}
use Rattle.event_io.proofs.ReceiverLemmas.{Turned}
use Rattle.event_io.proofs.receiver.Receiver.find.Given as goal

-- frames were taken, and a message wasn't there
abbrev pub invariant-frames : goal.invariant-frames
invariant-frames g l = Turned g.F.FrameSource l.fn.self l.self l.idle

-- a frame without data counts, and another brings bytes, of which there are less than a frame before it
abbrev pub decreases-frames : goal.decreases-frames
decreases-frames g l = (most_idle - l.idle) + (8589934592 - length (taken_bytes l.self))
