use Rattle.std.proofs.Common.{arith}
use Rattle.std.proofs.lemmas.Result.{err_from_is_err_and}
use Rattle.aws_signing.proofs.WatchedLemmas.{ends_ill, ends_well, fails_on, fed_more, none_left, piece_next}
use Rattle.aws_signing.proofs.signer.Signer.check_events.Goals as goal

pub returns-in_err-feed : goal.returns-in_err-feed
returns-in_err-feed c =
    let exit = err_from_is_err_and c.from_residual-in_err-feed.result c.from_residual-in_err-feed.ensures.1 in
    let next =
    piece_next c.args.self.now.holder.kept.signer c.args.signature.now _ c.args.pieces.now c.loop-piece.piece-index c.piece-item.result c.in_ok-clone.field-0 c.loop-piece.watch
    c.loop-piece.events.items c.loop-piece-test.true c.piece-item.is c.in_ok-clone.ensures.cases c.loop-piece.invariant in
    rw (exit.1, exit.2)
    (fails_on c.args.self.now.holder.kept.signer c.args.signature.now _ c.in_ok-clone.field-0 _ c.loop-piece.watch c.feed.new.self c.loop-piece.events.items c.feed.new.events.items
    c.in_err-feed.field-0.0 next c.in_err-feed.ensures)

pub loop-piece-preserved : goal.loop-piece-preserved
loop-piece-preserved c =
    let next =
    piece_next c.args.self.now.holder.kept.signer c.args.signature.now _ c.args.pieces.now c.loop-piece.piece-index c.piece-item.result c.in_ok-clone.field-0 c.loop-piece.watch
    c.loop-piece.events.items c.loop-piece-test.true c.piece-item.is c.in_ok-clone.ensures.cases c.loop-piece.invariant in
    fed_more c.args.self.now.holder.kept.signer c.args.signature.now _ c.in_ok-clone.field-0 _ c.loop-piece.watch c.feed.new.self c.loop-piece.events.items c.feed.new.events.items
    c.in_ok-feed.field-0 next c.in_ok-feed.ensures

pub returns-in_err-finish : goal.returns-in_err-finish
returns-in_err-finish c =
    let exit = err_from_is_err_and c.from_residual-in_err-finish.result c.from_residual-in_err-finish.ensures.1 in
    let left =
    none_left c.args.self.now.holder.kept.signer c.args.signature.now _ c.args.pieces.now c.loop-piece.piece-index c.loop-piece.watch c.loop-piece.events.items
    (omega (arith, c.loop-piece-test.false)) c.loop-piece.invariant in
    rw (exit.1, exit.2)
    (ends_ill c.args.self.now.holder.kept.signer c.args.signature.now _ c.loop-piece.watch c.loop-piece.events.items c.finish.new.events.items c.in_err-finish.field-0.0 left
    c.in_err-finish.ensures)

pub returns : goal.returns
returns c =
    let left =
    none_left c.args.self.now.holder.kept.signer c.args.signature.now _ c.args.pieces.now c.loop-piece.piece-index c.loop-piece.watch c.loop-piece.events.items
    (omega (arith, c.loop-piece-test.false)) c.loop-piece.invariant in
    ends_well c.args.self.now.holder.kept.signer c.args.signature.now _ c.loop-piece.watch c.loop-piece.events.items c.finish.new.events.items left c.in_ok-finish.ensures
