use Rattle.smithy_core.specs.Given.{Gives}
use Rattle.awsign_run.specs.Run.{TakesAskedMoment, asked_moment}
use Rattle.awsign_verify.proofs.judge.judge.Goals as goal

pub returns : goal.returns
returns g c =
    let moment = TakesAskedMoment (λ taken. Gives g.C.Clock c.args.clock.now taken c.moment_of-at.new.clock) (asked_moment c.args.options.now) in
    let at : moment c.moment_of-at.result = rw (← c.moment_asked.ensures) c.moment_of-at.ensures in
    (c.moment_of-at.result, at, c.judge_at.ensures)
