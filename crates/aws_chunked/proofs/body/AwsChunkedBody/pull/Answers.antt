use Rattle.std.proofs.Common.{ap}
use Rattle.std.proofs.lemmas.Result.{err_from_is_err_and}
use Rattle.aws_chunked.proofs.PullLemmas.{pulls_data, pulls_no_trailers, pulls_trailers}
use Rattle.aws_chunked.proofs.body.AwsChunkedBody.pull.Goals as goal

pub returns-in-Data : goal.returns-in-Data
returns-in-Data g c =
    pulls_data g.F.FrameSource c.args.self.now c.poll_frame.new.self c.reserve_one.new.self c.take_data.new.self c.in-Data.piece c.take_data.result c.requires.goes_on
    c.in-Data.ensures.gives c.reserve_one.ensures.bytes c.poll_frame.ensures.waits c.poll_frame.ensures.count c.take_data.ensures.taken c.take_data.ensures.held c.take_data.ensures.idle

pub returns-in_ok-take_trailers-in-Trailers : goal.returns-in_ok-take_trailers-in-Trailers
returns-in_ok-take_trailers-in-Trailers g c =
    pulls_trailers g.F.FrameSource c.args.self.now c.poll_frame.new.self c.reserve_one.new.self _ c.in-Trailers.trailers c.requires.goes_on
    c.in-Trailers.ensures.gives c.reserve_one.ensures.bytes c.poll_frame.ensures.waits c.poll_frame.ensures.count
    (ap (λ came. record c.args.self.now { source = c.poll_frame.new.self; came = came; chunks = record c.args.self.now.chunks { held = c.reserve_one.new.self } })
    c.in_ok-take_trailers-in-Trailers.ensures.ok)

pub returns-in_err-take_trailers-in-Trailers : goal.returns-in_err-take_trailers-in-Trailers
returns-in_err-take_trailers-in-Trailers g c =
    let exit = err_from_is_err_and c.from_residual-in_err-take_trailers-in-Trailers.result c.from_residual-in_err-take_trailers-in-Trailers.ensures.1 in
    rw (exit.1, exit.2)
    (pulls_no_trailers g.F.FrameSource c.args.self.now c.poll_frame.new.self c.reserve_one.new.self _ c.in-Trailers.trailers
    c.in-Trailers.ensures.gives c.poll_frame.ensures.waits c.poll_frame.ensures.count
    (ap (λ came. record c.args.self.now { source = c.poll_frame.new.self; came = came; chunks = record c.args.self.now.chunks { held = c.reserve_one.new.self } })
    c.take_trailers.ensures.others))
