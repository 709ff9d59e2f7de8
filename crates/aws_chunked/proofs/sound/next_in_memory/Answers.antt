use Rattle.smithy_core.specs.contracts.outside.frame_source.CalmFramesFrameSource.TheImpl as calm
use Rattle.aws_chunked.proofs.SoundBodyLemmas.{signs_all, sound_next}
use Rattle.aws_chunked.proofs.sound.next_in_memory.Goals as goal

pub returns-in-Ok-Frame-clause-text : goal.returns-in-Ok-Frame-clause-text
returns-in-Ok-Frame-clause-text g c =
    let answered = c.in-Ok-Frame.field-0-is in
    sound_next _ _ _ _ c.in-Ok-Frame.bytes c.requires.sound (rw answered at c.in-Ok-Frame.ensures.due) (rw answered at c.in-Ok-Frame.ensures.answers)
    (rw answered at c.in-Ok-Frame.ensures.cause) (rw answered at c.in-Ok-Frame.ensures.turns)

pub unreachable-requires-in-Err-FailedToSign : goal.unreachable-requires-in-Err-FailedToSign
unreachable-requires-in-Err-FailedToSign g c =
    let refused = c.in-Err-FailedToSign.field-0-is in
    signs_all calm.ghosts g.G.SignChunk _ _ _ c.requires.sound (rw refused at c.in-Err-FailedToSign.ensures.cause)
