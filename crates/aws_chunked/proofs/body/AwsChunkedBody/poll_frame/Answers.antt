use Rattle.std.proofs.Common.{◌∙◌, ap, sym}
use Rattle.aws_chunked.proofs.FillLemmas.{front_answers, front_cause, front_taken_due, front_turns, over_cause, over_due, over_turns, stopped_answers, stopped_cause, stopped_closed, stopped_due, stopped_on, stopped_turns}
use Rattle.aws_chunked.proofs.body.AwsChunkedBody.poll_frame.Goals as goal

pub returns-then-is_end_stream-clause-due : goal.returns-then-is_end_stream-clause-due
returns-then-is_end_stream-clause-due g c = over_due g.F.FrameSource g.G.SignChunk c.args.self.now (c.is_end_stream.ensures.0 c.if-is_end_stream.true)

pub returns-then-is_end_stream-clause-cause : goal.returns-then-is_end_stream-clause-cause
returns-then-is_end_stream-clause-cause g c = over_cause g.F.FrameSource g.G.SignChunk c.args.self.now

pub returns-then-is_end_stream-clause-turns : goal.returns-then-is_end_stream-clause-turns
returns-then-is_end_stream-clause-turns g c = over_turns g.F.FrameSource g.G.SignChunk c.args.self.now

pub returns-in-Ok-clause-due : goal.returns-in-Ok-clause-due
returns-in-Ok-clause-due g c =
    front_taken_due g.F.FrameSource g.G.SignChunk c.args.self.now c.fill.new.self _ c.take_ready.result c.in-Ok.ensures
    c.take_ready.ensures.front c.take_ready.ensures.some (ap (λ chunks. record c.fill.new.self { chunks = chunks }) c.take_ready.ensures.others)

pub returns-in-Ok-clause-answers : goal.returns-in-Ok-clause-answers
returns-in-Ok-clause-answers g c =
    front_answers g.F.FrameSource g.G.SignChunk c.args.self.now c.fill.new.self _ c.take_ready.result c.in-Ok.ensures
    c.take_ready.ensures.front (ap (λ chunks. record c.fill.new.self { chunks = chunks }) c.take_ready.ensures.others)

pub returns-in-Ok-clause-cause : goal.returns-in-Ok-clause-cause
returns-in-Ok-clause-cause g c =
    front_cause g.F.FrameSource g.G.SignChunk c.args.self.now c.fill.new.self _ c.take_ready.result c.in-Ok.ensures (ap (λ chunks. record c.fill.new.self { chunks = chunks }) c.take_ready.ensures.others)

pub returns-in-Ok-clause-turns : goal.returns-in-Ok-clause-turns
returns-in-Ok-clause-turns g c =
    front_turns g.F.FrameSource g.G.SignChunk c.args.self.now c.fill.new.self _ c.take_ready.result c.in-Ok.ensures (ap (λ chunks. record c.fill.new.self { chunks = chunks }) c.take_ready.ensures.others)

pub returns-in-Err-clause-due : goal.returns-in-Err-clause-due
returns-in-Err-clause-due g c =
    rw c.stopped.ensures.answer
    (stopped_due g.F.FrameSource g.G.SignChunk c.args.self.now c.fill.new.self c.stopped.new.self c.in-Err.stop c.in-Err.ensures c.stopped.ensures.after)

pub returns-in-Err-clause-answers : goal.returns-in-Err-clause-answers
returns-in-Err-clause-answers g c =
    rw c.stopped.ensures.answer
    (stopped_answers g.F.FrameSource g.G.SignChunk c.args.self.now c.fill.new.self c.stopped.new.self c.in-Err.stop c.in-Err.ensures c.stopped.ensures.after)

pub returns-in-Err-clause-cause : goal.returns-in-Err-clause-cause
returns-in-Err-clause-cause g c =
    rw c.stopped.ensures.answer
    (stopped_cause g.F.FrameSource g.G.SignChunk c.args.self.now c.fill.new.self c.stopped.new.self c.in-Err.stop c.in-Err.ensures c.stopped.ensures.after)

pub returns-in-Err-clause-turns : goal.returns-in-Err-clause-turns
returns-in-Err-clause-turns g c =
    rw c.stopped.ensures.answer
    (stopped_turns g.F.FrameSource g.G.SignChunk c.args.self.now c.fill.new.self c.stopped.new.self c.in-Err.stop c.in-Err.ensures c.stopped.ensures.after)

pub returns-in-Err-clause-closed : goal.returns-in-Err-clause-closed
returns-in-Err-clause-closed g c =
    rw c.stopped.ensures.answer (stopped_closed g.F.FrameSource g.G.SignChunk c.fill.new.self c.stopped.new.self c.in-Err.stop c.stopped.ensures.after)

pub returns-in-Err-clause-end : goal.returns-in-Err-clause-end
returns-in-Err-clause-end g c = λ is. absurd (stopped_on g.F.FrameSource g.G.SignChunk c.in-Err.stop (sym c.stopped.ensures.answer ∙ is))
