use Rattle.std.proofs.Common.{◌++◌, Err, refl, ◌∙◌}
use Rattle.awsign_events.proofs.FailedLemmas.{counts_none, counts_on_behind, steady_ok}
use Rattle.std.proofs.lemmas.Result.{err_from_is_err_and}
use Rattle.awsign_events.proofs.ShowLemmas.{part_more, shows_pushed}
use Rattle.awsign_events.proofs.decode.Frames.show.Goals as goal

pub returns-in_err-push_slice-clause-shows : goal.returns-in_err-push_slice-clause-shows
returns-in_err-push_slice-clause-shows g c =
    let exit = err_from_is_err_and c.from_residual.result c.from_residual.ensures.1 in
    λ taken before shown. rw (exit.1, exit.2) (part_more c.args.form taken c.args.piece.now c.args.self.now before (g.K.ByteSink.held c.args.out.now) shown)

pub frames-init : goal.frames-init
frames-init g c = record {
  shows = λ taken before shown. shows_pushed c.args.form taken c.args.piece.now c.args.self.now _ before (g.K.ByteSink.held c.args.out.now) c.in_ok-push_slice.ensures.bytes shown;
  steady = refl;
}

pub returns-in_err-show_front-clause-shows : goal.returns-in_err-show_front-clause-shows
returns-in_err-show_front-clause-shows g c =
    let exit = err_from_is_err_and c.from_residual-in_err-show_front.result c.from_residual-in_err-show_front.ensures.1 in
    λ taken before shown. rw (exit.1, exit.2) (c.in_err-show_front.ensures.shows (taken ++ c.args.piece.now) before (c.frames.invariant.shows taken before shown))

pub frames-preserved : goal.frames-preserved
frames-preserved g c = record {
  shows =
      λ taken before shown.
      let one = c.in_ok-show_front.ensures.shows (taken ++ c.args.piece.now) before (c.frames.invariant.shows taken before shown) in rw c.if-branch.true at one;
  steady = steady_ok _ _ _ _ _ c.in_ok-show_front.was c.show_front.ensures.failed ∙ c.frames.invariant.steady;
}

pub returns-clause-shows : goal.returns-clause-shows
returns-clause-shows g c =
    λ taken before shown.
    let one = c.in_ok-show_front.ensures.shows (taken ++ c.args.piece.now) before (c.frames.invariant.shows taken before shown) in rw c.if-branch.false at one

pub returns-in_err-show_front-clause-failed : goal.returns-in_err-show_front-clause-failed
returns-in_err-show_front-clause-failed g c =
    let exit = err_from_is_err_and c.from_residual-in_err-show_front.result c.from_residual-in_err-show_front.ensures.1 in
    rw (exit.1, exit.2) (counts_on_behind c.show_front.result (Err c.in_err-show_front.field-0.0) _ _ _ _ _ c.frames.invariant.steady c.in_err-show_front.was refl c.show_front.ensures.failed)

pub returns-clause-failed : goal.returns-clause-failed
returns-clause-failed g c =
    counts_none _ _ _ (steady_ok _ _ _ _ _ c.in_ok-show_front.was c.show_front.ensures.failed ∙ c.frames.invariant.steady) (λ is. cc)
