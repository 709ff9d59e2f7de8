use Rattle.std.proofs.Common.{sym, ◌∙◌}
use Rattle.std.proofs.lemmas.Bool.{false≢true}
use Rattle.std.proofs.lemmas.Result.{err_from_is_err_and}
use Rattle.aws_chunked.specs.Body.{ready_bytes}
use Rattle.aws_chunked.proofs.FillLemmas.{clear_after, gathered_not, made_fault, made_ready, some_bytes, stays_ready}
use Rattle.aws_chunked.proofs.body.AwsChunkedBody.fill.Goals as goal

pub returns-then-not-is_empty : goal.returns-then-not-is_empty
returns-then-not-is_empty g c =
    stays_ready g.F.FrameSource g.G.SignChunk c.args.self.now
    (some_bytes (ready_bytes c.args.self.now) (λ none. false≢true (sym c.if-not-is_empty.true ∙ c.is_empty.ensures.1 none)))

pub gather-requires : goal.gather-requires
gather-requires g c = λ over. c.requires (record { over = over; answered = c.is_empty.ensures.0 c.if-not-is_empty.false })

pub returns-in_err-gather : goal.returns-in_err-gather
returns-in_err-gather g c =
    let exit = err_from_is_err_and c.from_residual.result c.from_residual.ensures.1 in
    rw (exit.1, exit.2)
    (gathered_not g.F.FrameSource g.G.SignChunk c.args.self.now c.gather.new.self c.in_err-gather.field-0.0 (c.is_empty.ensures.0 c.if-not-is_empty.false) c.in_err-gather.ensures)

pub make-requires : goal.make-requires
make-requires g c =
    clear_after g.F.FrameSource g.G.SignChunk c.args.self.now c.gather.new.self c.in_ok-gather.ensures (c.is_empty.ensures.0 c.if-not-is_empty.false)

pub returns-in_err-make : goal.returns-in_err-make
returns-in_err-make g c =
    let exit = err_from_is_err_and c.from_residual-in_err-make.result c.from_residual-in_err-make.ensures.1 in
    rw (exit.1, exit.2)
    (made_fault g.F.FrameSource g.G.SignChunk c.args.self.now c.gather.new.self c.make.new.self _ c.in_ok-gather.ensures c.in_err-make.ensures.chunk c.in_err-make.ensures.tail)

pub returns : goal.returns
returns g c =
    made_ready g.F.FrameSource g.G.SignChunk c.args.self.now c.gather.new.self c.make.new.self (c.is_empty.ensures.0 c.if-not-is_empty.false) c.in_ok-gather.ensures
    c.in_ok-make.ensures.chunk c.in_ok-make.ensures.tail
