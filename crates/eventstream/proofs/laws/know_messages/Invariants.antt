use Rattle.std.specs.List.{AllWithin}
use Rattle.eventstream.specs.Laws.{IsProper}
use Rattle.eventstream.proofs.laws.know_messages.Given as goal

-- the messages so far
abbrev pub invariant-loop-message : goal.invariant-loop-message
invariant-loop-message l = AllWithin IsProper l.messages 0 l.message-index
