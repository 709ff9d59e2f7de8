use Rattle.std.proofs.Common.{drop}
use Rattle.std.proofs.lemmas.Result.{err_from_is_err_and}
use Rattle.awsign_events.proofs.ShowLemmas.{shows_next, unwritten_stops, waits_fewer, wrong_stops}
use Rattle.awsign_events.proofs.decode.Frames.show_front.Goals as goal

pub returns-in_err-write_message-in-Ok-Some-clause-shows : goal.returns-in_err-write_message-in-Ok-Some-clause-shows
returns-in_err-write_message-in-Ok-Some-clause-shows g c =
    let exit = err_from_is_err_and c.from_residual.result c.from_residual.ensures.1 in
    let found = rw c.in-Ok-Some.field-0-is at c.in-Ok-Some.ensures.first in
    λ taken before shown.
    rw (exit.1, exit.2)
    (unwritten_stops c.args.form taken c.args.self.now before (g.K.ByteSink.held c.args.out.now) (g.K.ByteSink.held c.write_message.new.out) c.in-Ok-Some.message
    (drop c.in-Ok-Some.len c.args.self.now.waiting.bytes) c.in_err-write_message-in-Ok-Some.field-0.0 shown found.1 c.in_err-write_message-in-Ok-Some.ensures.wrote)

pub returns-in_ok-write_message-in-Ok-Some-clause-shows : goal.returns-in_ok-write_message-in-Ok-Some-clause-shows
returns-in_ok-write_message-in-Ok-Some-clause-shows g c =
    let found = rw c.in-Ok-Some.field-0-is at c.in-Ok-Some.ensures.first in
    λ taken before shown.
    shows_next c.args.form taken c.args.self.now before (g.K.ByteSink.held c.args.out.now) (g.K.ByteSink.held c.write_message.new.out) c.in-Ok-Some.message c.in-Ok-Some.len _ _ shown
    found.1 c.advance.ensures.bytes c.saturating_add-self.ensures c.in_ok-write_message-in-Ok-Some.ensures.wrote

pub returns-in_ok-write_message-in-Ok-Some-clause-shorter : goal.returns-in_ok-write_message-in-Ok-Some-clause-shorter
returns-in_ok-write_message-in-Ok-Some-clause-shorter g c =
    let found = rw c.in-Ok-Some.field-0-is at c.in-Ok-Some.ensures.first in
    λ is. waits_fewer c.args.self.now c.in-Ok-Some.message c.in-Ok-Some.len _ found.1 c.advance.ensures.bytes

pub returns-in-Err-clause-shows : goal.returns-in-Err-clause-shows
returns-in-Err-clause-shows g c =
    λ taken before shown. rw c.wrong_frame.ensures (wrong_stops c.args.form taken c.args.self.now before (g.K.ByteSink.held c.args.out.now) c.in-Err.error shown c.in-Err.ensures.first)

pub returns-in-Ok-None-clause-shows : goal.returns-in-Ok-None-clause-shows
returns-in-Ok-None-clause-shows g c = λ taken before shown. (shown, rw c.in-Ok-None.field-0-is at c.in-Ok-None.ensures.first)
