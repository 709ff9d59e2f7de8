use Rattle.std.proofs.Common.{rules}
use Rattle.std.proofs.lemmas.Result.{err_from_is_err_and}
use Rattle.aws_chunked.specs.Passing.{AreIdleInStep, AreNoneTaken}
use Rattle.aws_chunked.proofs.PassLemmas.{idles_at, idles_more, idles_none, made_later, passed_later, stays_open, step_none, step_some}
use Rattle.aws_chunked.proofs.body.AwsChunkedBody.next_piece.Goals as goal

pub loop-idle-init : goal.loop-idle-init
loop-idle-init g c = idles_none g.F.FrameSource _

pub make_piece-requires : goal.make_piece-requires
make_piece-requires g c = stays_open g.F.FrameSource c.loop-idle.idle c.args.self.now c.loop-idle.self c.loop-idle.invariant c.requires

pub returns-in_err-piece : goal.returns-in_err-piece
returns-in_err-piece g c =
    let exit = err_from_is_err_and c.from_residual.result c.from_residual.ensures.1 in
    rw (exit.1, exit.2)
    (made_later g.F.FrameSource c.loop-idle.idle c.args.self.now c.loop-idle.self c.make_piece.new.self _ (search rules) c.loop-idle.invariant c.in_err-piece.ensures)

pub returns-in-Some : goal.returns-in-Some
returns-in-Some g c =
    made_later g.F.FrameSource c.loop-idle.idle c.args.self.now c.loop-idle.self c.make_piece.new.self _ (search rules) c.loop-idle.invariant
    (step_some g.F.FrameSource _ AreNoneTaken c.loop-idle.self c.make_piece.new.self c.in_ok-piece.field-0 c.in-Some.piece c.in-Some.is c.in_ok-piece.ensures)

pub returns-in_err-piece-2 : goal.returns-in_err-piece-2
returns-in_err-piece-2 g c =
    let exit = err_from_is_err_and c.from_residual-in_err-piece-2.result c.from_residual-in_err-piece-2.ensures.1 in
    let asks = step_none g.F.FrameSource _ AreNoneTaken c.loop-idle.self c.make_piece.new.self c.in_ok-piece.field-0 c.in_default.is c.in_ok-piece.ensures in
    rw (exit.1, exit.2)
    (passed_later g.F.FrameSource c.loop-idle.idle c.args.self.now c.make_piece.new.self c.pass_frame.new.self _ (search rules)
    (idles_at g.F.FrameSource c.loop-idle.idle c.args.self.now c.loop-idle.self c.make_piece.new.self c.loop-idle.invariant asks.1) c.in_err-piece-2.ensures)

pub returns-in-Some-2 : goal.returns-in-Some-2
returns-in-Some-2 g c =
    let asks = step_none g.F.FrameSource _ AreNoneTaken c.loop-idle.self c.make_piece.new.self c.in_ok-piece.field-0 c.in_default.is c.in_ok-piece.ensures in
    passed_later g.F.FrameSource c.loop-idle.idle c.args.self.now c.make_piece.new.self c.pass_frame.new.self _ (search rules)
    (idles_at g.F.FrameSource c.loop-idle.idle c.args.self.now c.loop-idle.self c.make_piece.new.self c.loop-idle.invariant asks.1)
    (step_some g.F.FrameSource _ AreIdleInStep c.make_piece.new.self c.pass_frame.new.self c.in_ok-piece-2.field-0 c.in-Some-2.piece c.in-Some-2.is c.in_ok-piece-2.ensures)

pub loop-idle-preserved : goal.loop-idle-preserved
loop-idle-preserved g c =
    let asks = step_none g.F.FrameSource _ AreNoneTaken c.loop-idle.self c.make_piece.new.self c.in_ok-piece.field-0 c.in_default.is c.in_ok-piece.ensures in
    idles_more g.F.FrameSource c.loop-idle.idle 1 c.args.self.now c.make_piece.new.self c.pass_frame.new.self
    (idles_at g.F.FrameSource c.loop-idle.idle c.args.self.now c.loop-idle.self c.make_piece.new.self c.loop-idle.invariant asks.1)
    (step_none g.F.FrameSource _ AreIdleInStep c.make_piece.new.self c.pass_frame.new.self c.in_ok-piece-2.field-0 c.in_default-2.is c.in_ok-piece-2.ensures)
