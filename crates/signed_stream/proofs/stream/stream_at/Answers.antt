use Rattle.smithy_core.specs.Given.{Gives}
use Rattle.smithy_core.specs.contracts.outside.clock.FixedClockClock.TheImpl as fixed
use Rattle.smithy_core.proofs.GivenLemmas.{given_none}
use Rattle.signed_stream.proofs.FitLemmas.{fixed_takes, streams_take}
use Rattle.signed_stream.proofs.stream.stream_at.Goals as goal

pub returns-in-Some-clause-streams : goal.returns-in-Some-clause-streams
returns-in-Some-clause-streams g c =
    rw c.in-Some.is
    (fixed_takes fixed.ghosts (λ before moment now gives. gives) (λ taken. Gives g.C.Clock c.args.clock.now taken c.args.clock.now) (given_none g.C.Clock c.args.clock.now) c.new-fixed.result c.stream_selected.new.clock c.in-Some.at c.new-fixed.ensures.at
    _ _ _ _ _
    (streams_take fixed.ghosts c.new-fixed.result c.stream_selected.new.clock _ _ _ _ _ _ _ c.stream_selected.ensures.streams))

pub returns-clause-streams : goal.returns-clause-streams
returns-clause-streams g c =
    rw c.in-None.is
    (streams_take g.C.Clock c.args.clock.now c.stream_selected-in-None.new.clock _ _ _ _ _ _ _ c.stream_selected-in-None.ensures.streams)
