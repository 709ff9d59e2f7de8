use Rattle.smithy_core.specs.FrameSource.{AreShort}
use Rattle.tool_uses.proofs.received_events.pieces_of.Given as goal

-- no piece so far is too long
abbrev pub invariant-loop-piece : goal.invariant-loop-piece
invariant-loop-piece l = AreShort l.pieces.items
