use Rattle.std.proofs.Common.{refl}
use Rattle.event_io.proofs.ReceiverLemmas.{any_cut_first}
use Rattle.event_io.proofs.receiver.Receiver.try_recv_initial_with_preprocessor.Goals as goal

pub returns-clause-any_cut : goal.returns-clause-any_cut
returns-clause-any_cut g c =
    any_cut_first g.F.FrameSource (λ first answer. goal.P-post g c.args.preprocessor first answer) c.args.message_type c.try_first-answer.result _ c.try_first-answer.new.self _
    c.try_first-answer.ensures.tries (rw (c.try_first-answer.ensures.open, c.is_last.ensures) refl)
