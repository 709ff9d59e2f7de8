use Rattle.std.proofs.Common.{refl}
use Rattle.event_io.proofs.ReceiverLemmas.{any_cut}
use Rattle.event_io.proofs.receiver.Receiver.recv.Goals as goal

pub returns-clause-any_cut : goal.returns-clause-any_cut
returns-clause-any_cut g c =
    any_cut g.F.FrameSource g.U.UnmarshallMessage c.receive-answer.result _ c.receive-answer.new.self _ c.receive-answer.ensures.receives
    (rw (c.receive-answer.ensures.open, c.is_last.ensures) refl)
