use Rattle.std.proofs.Common.{drop}
use Rattle.aws_signing.specs.EventFrames.{IsChainedSoFar}
use Rattle.aws_signing.proofs.events.SignedEvents.all_frames.Given as goal

-- the messages before this one have their frames
abbrev pub invariant-loop-message : goal.invariant-loop-message
invariant-loop-message l = IsChainedSoFar l.initial.self l.self l.messages (drop l.message-index l.messages) l.at l.frames.items
