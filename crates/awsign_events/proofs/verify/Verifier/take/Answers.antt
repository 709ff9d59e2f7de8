use Rattle.std.proofs.Common.{refl}
use Rattle.std.proofs.lemmas.Result.{err_from_is_err_and}
use Rattle.awsign_events.proofs.VerifyLemmas.{fed_counts, fed_fault, fed_sound, fed_stops, verified_roomless}
use Rattle.awsign_events.proofs.verify.Verifier.take.Goals as goal

pub returns-in_err-piece-clause-takes : goal.returns-in_err-piece-clause-takes
returns-in_err-piece-clause-takes g c =
    let exit = err_from_is_err_and c.from_residual.result c.from_residual.ensures.1 in
    λ signer seed taken before shown. rw (exit.1, exit.2)
    (verified_roomless c.args.form signer seed taken c.args.self.now before (g.K.ByteSink.held c.args.out.now) shown c.args.piece.now)

pub returns-in_err-self-clause-takes : goal.returns-in_err-self-clause-takes
returns-in_err-self-clause-takes g c =
    let sink = g.K.ByteSink in
    let exit = err_from_is_err_and c.from_residual-in_err-self.result c.from_residual-in_err-self.ensures.1 in
    let feeds = rw (c.in_ok-piece.ensures, c.new-events.ensures.items) at c.feed-watched.ensures.feeds in
    let prints = rw c.as_slice.ensures.value at c.in_err-self.ensures.prints in
    λ signer seed taken before shown. rw (exit.1, exit.2)
    (fed_stops c.args.form signer seed taken c.args.self.now before (sink.held c.args.out.now) shown c.args.piece.now c.feed-watched.new.self c.feed-watched.new.events.items (sink.held c.print_events.new.out)
    c.feed-watched.result c.in_err-self.field-0.0 feeds (prints shown.events before shown.prints))

pub returns-in-Ok-clause-takes : goal.returns-in-Ok-clause-takes
returns-in-Ok-clause-takes g c =
    let sink = g.K.ByteSink in
    let feeds = rw (c.in_ok-piece.ensures, c.new-events.ensures.items) at c.in-Ok.ensures.feeds in
    let prints = rw c.as_slice.ensures.value at c.in_ok-self.ensures.prints in
    λ signer seed taken before shown.
    fed_sound c.args.form signer seed taken c.args.self.now before (sink.held c.args.out.now) shown c.args.piece.now c.feed-watched.new.self c.feed-watched.new.events.items (sink.held c.print_events.new.out)
    c.in-Ok.field-0 _ feeds refl (prints shown.events before shown.prints)

pub returns-clause-takes : goal.returns-clause-takes
returns-clause-takes g c =
    let sink = g.K.ByteSink in
    let feeds = rw (c.in_ok-piece.ensures, c.new-events.ensures.items) at c.in-Err.ensures.feeds in
    let prints = rw c.as_slice.ensures.value at c.in_ok-self.ensures.prints in
    λ signer seed taken before shown. rw c.from.ensures
    (fed_fault c.args.form signer seed taken c.args.self.now before (sink.held c.args.out.now) shown c.args.piece.now c.feed-watched.new.self c.feed-watched.new.events.items (sink.held c.print_events.new.out)
    c.in-Err.fault feeds (prints shown.events before shown.prints).0)

pub returns-in-Ok-clause-fed : goal.returns-in-Ok-clause-fed
returns-in-Ok-clause-fed g c = fed_counts c.args.self.now.watch _ c.args.piece.now _ _ c.in-Ok.field-0 (rw c.in_ok-piece.ensures at c.in-Ok.ensures.feeds)
