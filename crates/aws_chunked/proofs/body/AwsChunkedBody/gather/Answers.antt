use Rattle.std.proofs.lemmas.Result.{err_from_is_err_and}
use Rattle.aws_chunked.proofs.PullLemmas.{gathers_lacks, gathers_stops, tests_compared, tests_goes_on, turned_more}
use Rattle.aws_chunked.proofs.body.AwsChunkedBody.gather.Goals as goal

pub pull-requires-clause-compared : goal.pull-requires-clause-compared
pull-requires-clause-compared g c = tests_compared c.frames.self _ c.in_ok-is_at_hand.ensures c.if-branch.false

pub returns-in_err-is_at_hand : goal.returns-in_err-is_at_hand
returns-in_err-is_at_hand g c =
    let exit = err_from_is_err_and c.from_residual.result c.from_residual.ensures.1 in
    rw (exit.1, exit.2)
    (gathers_lacks g.F.FrameSource c.args.self.now c.frames.self c.frames.idle _ c.frames.invariant c.frames-test.true c.in_err-is_at_hand.ensures)

pub returns-in_err-idle : goal.returns-in_err-idle
returns-in_err-idle g c =
    let exit = err_from_is_err_and c.from_residual-in_err-idle.result c.from_residual-in_err-idle.ensures.1 in
    rw (exit.1, exit.2)
    (gathers_stops g.F.FrameSource c.args.self.now c.frames.self c.pull.new.self c.frames.idle c.in_err-idle.field-0.0 c.frames.invariant c.frames-test.true
    (tests_goes_on c.frames.self _ c.in_ok-is_at_hand.ensures c.if-branch.false) c.in_err-idle.ensures)

pub frames-preserved : goal.frames-preserved
frames-preserved g c =
    turned_more g.F.FrameSource c.args.self.now c.frames.self c.pull.new.self c.frames.idle c.in_ok-idle.field-0 c.frames.invariant c.frames-test.true
    (tests_goes_on c.frames.self _ c.in_ok-is_at_hand.ensures c.if-branch.false) c.in_ok-idle.ensures
