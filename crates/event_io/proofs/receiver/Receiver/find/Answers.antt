use Rattle.std.proofs.lemmas.Result.{err_from_is_err_and}
use Rattle.event_io.proofs.ReceiverLemmas.{front_lacks, peeked_none, turned_more}
use Rattle.event_io.proofs.receiver.Receiver.find.Goals as goal

pub returns-in_err-idle-in-None : goal.returns-in_err-idle-in-None
returns-in_err-idle-in-None g c =
    let exit = err_from_is_err_and c.from_residual-in_err-idle-in-None.result c.from_residual-in_err-idle-in-None.ensures.1 in
    rw (exit.1, exit.2)
    (front_lacks g.F.FrameSource _ _ c.pull.new.self c.frames.idle c.in_err-idle-in-None.field-0.0 c.frames.invariant c.frames-test.true (peeked_none _ c.in_ok-message.field-0 c.in_ok-message.ensures.first c.in-None.is) c.in_err-idle-in-None.ensures)

pub frames-preserved : goal.frames-preserved
frames-preserved g c =
    turned_more g.F.FrameSource _ _ c.pull.new.self c.frames.idle c.in_ok-idle-in-None.field-0 c.frames.invariant c.frames-test.true (peeked_none _ c.in_ok-message.field-0 c.in_ok-message.ensures.first c.in-None.is) c.in_ok-idle-in-None.ensures
