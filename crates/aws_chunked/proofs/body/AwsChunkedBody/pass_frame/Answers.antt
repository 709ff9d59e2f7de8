use Rattle.std.proofs.Common.{ap}
use Rattle.std.proofs.lemmas.Result.{err_from_is_err_and}
use Rattle.aws_chunked.proofs.PassLemmas.{data_lacks, data_steps, trailers_idle, trailers_lost}
use Rattle.aws_chunked.proofs.body.AwsChunkedBody.pass_frame.Goals as goal

pub returns-in_err-pass_data-in-Data : goal.returns-in_err-pass_data-in-Data
returns-in_err-pass_data-in-Data g c =
    let exit = err_from_is_err_and c.from_residual.result c.from_residual.ensures.1 in
    rw (exit.1, exit.2)
    (data_lacks g.F.FrameSource c.args.self.now c.poll_frame.new.self c.pass_data.new.came c.in-Data.piece c.in_err-pass_data-in-Data.field-0.0 c.requires.1
    c.in-Data.ensures.gives c.poll_frame.ensures.waits c.poll_frame.ensures.count c.in_err-pass_data-in-Data.ensures)

pub returns-in_err-take_trailers-in-Trailers : goal.returns-in_err-take_trailers-in-Trailers
returns-in_err-take_trailers-in-Trailers g c =
    let exit = err_from_is_err_and c.from_residual-in_err-take_trailers-in-Trailers.result c.from_residual-in_err-take_trailers-in-Trailers.ensures.1 in
    rw (exit.1, exit.2)
    (trailers_lost g.F.FrameSource c.args.self.now _ c.poll_frame.new.self c.in-Trailers.trailers c.in-Trailers.ensures.gives
    c.poll_frame.ensures.waits c.poll_frame.ensures.count
    (ap (λ came. record c.args.self.now { source = c.poll_frame.new.self; came = came }) c.take_trailers.ensures.others))

pub returns-in_ok-pass_data-in-Data : goal.returns-in_ok-pass_data-in-Data
returns-in_ok-pass_data-in-Data g c =
    data_steps g.F.FrameSource c.args.self.now c.poll_frame.new.self c.pass_data.new.came c.in-Data.piece c.in_ok-pass_data-in-Data.field-0 c.requires.1
    c.in-Data.ensures.gives c.poll_frame.ensures.waits c.poll_frame.ensures.count c.in_ok-pass_data-in-Data.ensures

pub returns-in_ok-take_trailers-in-Trailers : goal.returns-in_ok-take_trailers-in-Trailers
returns-in_ok-take_trailers-in-Trailers g c =
    trailers_idle g.F.FrameSource c.args.self.now _ c.poll_frame.new.self c.in-Trailers.trailers c.requires.0 c.in-Trailers.ensures.gives
    c.poll_frame.ensures.waits c.poll_frame.ensures.count
    (ap (λ came. record c.args.self.now { source = c.poll_frame.new.self; came = came }) c.in_ok-take_trailers-in-Trailers.ensures.ok)
