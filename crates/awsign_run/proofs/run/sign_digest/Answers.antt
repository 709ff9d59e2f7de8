use Rattle.std.proofs.Common.{map, option_map}
use Rattle.std.specs.Prelude.{string_bytes}
use Rattle.smithy_core.specs.Given.{Gives}
use Rattle.env_config.specs.Source.{file_of}
use Rattle.awsign_run.specs.Run.{TakesAskedMoment, asked_moment}
use Rattle.awsign_words.specs.Words.{sign_wanted}
use Rattle.awsign_run.proofs.RunLemmas.{moment_given, text_refused}
use Rattle.awsign_run.proofs.run.sign_digest.Goals as goal

pub returns-in-Ok : goal.returns-in-Ok
returns-in-Ok g c =
    let moment = TakesAskedMoment (λ taken. Gives g.C.Clock c.args.clock.now taken c.moment_of-at.new.clock) (asked_moment c.args.asked.now.options) in
    let at : moment c.moment_of-at.result = rw (← c.moment_asked.ensures) c.moment_of-at.ensures in
    moment_given moment (sign_wanted c.args.asked.now) c.args.env.now (map file_of c.args.source.now.files.items) (option_map string_bytes c.args.digest.now)
    c.moment_of-at.result c.in-Ok.text at (rw (← c.lent.ensures) c.in-Ok.ensures)

pub returns-in-Err : goal.returns-in-Err
returns-in-Err g c =
    let moment = TakesAskedMoment (λ taken. Gives g.C.Clock c.args.clock.now taken c.moment_of-at.new.clock) (asked_moment c.args.asked.now.options) in
    let at : moment c.moment_of-at.result = rw (← c.moment_asked.ensures) c.moment_of-at.ensures in
    rw c.from.ensures
    (text_refused moment (sign_wanted c.args.asked.now) c.args.env.now (map file_of c.args.source.now.files.items) (option_map string_bytes c.args.digest.now)
    c.moment_of-at.result c.in-Err.fault at (rw (← c.lent.ensures) c.in-Err.ensures))
