use Rattle.std.proofs.Common.{◌++◌, refl}
use Rattle.event_io.specs.Drain.{messages_in}
use Rattle.event_io.proofs.DrainLemmas.{receives_answer}
use Rattle.event_io.proofs.LawLemmas.{calls_hold, calls_tell}
use Rattle.event_io.proofs.laws.calls_tell_the_reading.Goals as goal

pub returns-clause-tells : goal.returns-clause-tells
returns-clause-tells g c = calls_tell g.F.FrameSource

pub returns-clause-holds : goal.returns-clause-holds
returns-clause-holds g c = calls_hold g.F.FrameSource

pub returns-clause-takes : goal.returns-clause-takes
returns-clause-takes g c answer old new given passes none receives cuts want =
    receives_answer g.F.FrameSource g.U.UnmarshallMessage passes answer old new given (given ++ messages_in answer) refl none receives cuts want
