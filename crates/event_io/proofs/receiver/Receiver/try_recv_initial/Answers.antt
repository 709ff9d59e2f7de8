use Rattle.event_io.specs.Receiver.{LeavesMessage, is_terminated, kept_message}
use Rattle.event_io.proofs.ReceiverLemmas.{first_weaker}
use Rattle.event_io.proofs.receiver.Receiver.try_recv_initial.Goals as goal

-- the preprocessor's own contract says so
pub returns-clause-tries : goal.returns-clause-tries
returns-clause-tries g c =
    first_weaker (λ message answer. Unit {0} × LeavesMessage message answer) LeavesMessage (λ message answer says. says.1) c.args.message_type g.F.FrameSource (kept_message c.args.self.now)
    (is_terminated c.args.self.now) c.args.self.now c.try_recv_initial_with_preprocessor.new.self c.try_recv_initial_with_preprocessor.result
    c.try_recv_initial_with_preprocessor.ensures.tries
