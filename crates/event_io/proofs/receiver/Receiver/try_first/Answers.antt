use Rattle.event_io.proofs.ReceiverLemmas.{first_settled}
use Rattle.event_io.proofs.receiver.Receiver.try_first.Goals as goal

pub returns-in-Ok-clause-tries : goal.returns-in-Ok-clause-tries
returns-in-Ok-clause-tries g c =
    first_settled g.F.FrameSource (λ first answer. goal.P-post g c.args.preprocessor first answer) c.args.message_type c.args.self.now c.come.new.self c.settle.new.self c.in-Ok.field-0
    c.try_message-made.result c.settle.result c.in-Ok.ensures.comes c.in-Ok.ensures.kept c.try_message-made.ensures.tries c.settle.ensures.settles
