use Rattle.std.proofs.Common.{arith}
use Rattle.std.proofs.lemmas.List.Elements.{AllWithin-more, at_read}
use Rattle.eventstream.specs.Laws.{IsProper}
use Rattle.eventstream.proofs.laws.know_messages.Goals as goal

pub loop-message-preserved : goal.loop-message-preserved
loop-message-preserved c =
    let messages = c.args.messages.now in
    let i = c.loop-message.message-index in
    AllWithin-more IsProper messages 0 i c.loop-message.invariant (at_read messages IsProper i c.message-item.result (omega arith) c.message-item.is c.know_message.ensures)

pub returns : goal.returns
returns c k d within = c.loop-message.invariant k d (omega arith) (omega arith)
