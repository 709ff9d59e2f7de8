use Rattle.std.proofs.Common.{◌∙◌, ap, refl, sym, append-nil, ◌++◌}
use Rattle.smithy_core.specs.declared.outside.frame_part.FramePart.TheVariants.{Data, Trailers}
use Rattle.event_io.proofs.ReceiverLemmas.{pulls_one}
use Rattle.event_io.proofs.receiver.Receiver.pull.Goals as goal

pub returns-in-Data : goal.returns-in-Data
returns-in-Data g c = (
  Data c.in-Data.piece,
  pulls_one g.F.FrameSource (Data c.in-Data.piece) _ _ c.in-Data.ensures.gives (c.push.ensures.bytes ∙ ap (λ bytes. bytes ++ c.in-Data.piece) c.reserve_one.ensures.bytes)
      c.poll_frame.ensures.waits c.poll_frame.ensures.count refl,
  c.idle_turns-idle.ensures,
)

pub returns-in-Trailers : goal.returns-in-Trailers
returns-in-Trailers g c = (
  Trailers c.in-Trailers.field-0,
  pulls_one g.F.FrameSource (Trailers c.in-Trailers.field-0) _ _ c.in-Trailers.ensures.gives (c.reserve_one.ensures.bytes ∙ sym (append-nil _))
      c.poll_frame.ensures.waits c.poll_frame.ensures.count refl,
  refl,
)
